-- The ways of a list of statements from which control goes on at its end alone, and of a condition.
use Rattle.std.proofs.Common.{◌≡◌, ℕ, Bool, true, List, [], ◌∷◌, ◌++◌, Some, slice_set, refl, sym, ap, ◌∙◌}
use Rattle.life_types.specs.Types.{Types}
use Rattle.life_types.specs.declared.place.Place.{Place}
use Rattle.life_core.specs.Function.{Function}
use Rattle.life_core.specs.Step.{Step, Test}
use Rattle.life_core.specs.Touched.{touched_by}
use Rattle.life_core.specs.Tree.{Question, Tree, Then, Acts, Asks, Both, Either, Negated, Choice, trees}
use Rattle.life_proper.specs.declared.known.Known.{Known}
use Rattle.life_proper.specs.declared.known.Known.TheVariants as known
use Rattle.life_proper.specs.Checking.{Flow, before_both, before_false, before_next, before_true, flow, joined, nowhere, turned}
use Rattle.life_proper.specs.Knowing.{State, agreed_all}
use Rattle.life_proper.specs.ReadyKnown.{are_ready, is_node_ready, known_after}
use Rattle.life_proper.proofs.Joining.{joined_assoc}

-- all is ready, and control goes on at the end with this known
abbrev pub falling : List Known → Flow
falling k = record nowhere { next = Some k }

-- .. where a condition holds, and where it doesn't
abbrev pub deciding : (holds fails : List Known) → Flow
deciding k j = record nowhere { on_true = Some k; on_false = Some j }

-- an instruction is ready, and behind it this local is there too
pub record Fills (f : Function) (k : List Known) (i : Step) (x : ℕ) : Type 0 where
  pub ready : are_ready k (touched_by f i) ≡ true
  pub after : known_after (touched_by f i) k ≡ slice_set k x known.Ready

module _ (types : Types) (f : Function) where
  abbrev pub Falls : List Tree → (before after : List Known) → Type 0
  Falls code k j = flow types f (trees code) (Some k) ≡ falling j

  abbrev pub Decides : Tree → (before holds fails : List Known) → Type 0
  Decides t k on off = flow types f t (Some k) ≡ deciding on off

  -- ---- statements

  pub flow_append : (c d : List Tree) (s : State) → flow types f (trees (c ++ d)) s ≡ joined (before_next (flow types f (trees c) s)) (flow types f (trees d) (flow types f (trees c) s).next)
  flow_append [] d s = refl
  flow_append (t ∷ c) d s =
      let w = flow types f t s in
      let v = flow types f (trees c) w.next in
      ap (joined (before_next w)) (flow_append c d w.next)
      ∙ sym (joined_assoc (before_next w) (before_next v) (flow types f (trees d) v.next))

  pub falls_append : (c d : List Tree) (k j l : List Known) → Falls c k j → Falls d j l → Falls (c ++ d) k l
  falls_append c d k j l first second =
      flow_append c d (Some k)
      ∙ ap (λ (w : Flow). joined (before_next w) (flow types f (trees d) w.next)) first
      ∙ ap (joined (before_next (falling j))) second

  pub falls_acts : (place : Place) (i : Step) (k : List Known) → are_ready k (touched_by f i) ≡ true → Falls (Acts place i ∷ []) k (known_after (touched_by f i) k)
  falls_acts place i k ready =
      ap (λ (b : Bool). let w : Flow = record nowhere { fine = b; next = Some (known_after (touched_by f i) k) } in joined (before_next w) (record nowhere { next = w.next })) ready

  pub falls_filling : (place : Place) (i : Step) (x : ℕ) (k : List Known) → Fills f k i x → Falls (Acts place i ∷ []) k (slice_set k x known.Ready)
  falls_filling place i x k is = falls_acts place i k is.ready ∙ ap falling is.after

  -- both branches of a condition
  pub falls_choice : (t : Tree) (a b : List Tree) (k on off j l : List Known) → Decides t k on off → Falls a on j → Falls b off l
      → Falls (Choice t (trees a) (trees b) ∷ []) k (agreed_all j l)
  falls_choice t a b k on off j l test first second =
      ap (λ (w : Flow). closed w (flow types f (trees a) w.on_true) (flow types f (trees b) w.on_false)) test
      ∙ ap (λ (v : Flow). closed (deciding on off) v (flow types f (trees b) (Some off))) first
      ∙ ap (λ (v : Flow). closed (deciding on off) (falling j) v) second
    where
      branched : Flow → Flow → Flow → Flow
      branched w v u = joined (before_both w) (joined v u)

      closed : Flow → Flow → Flow → Flow
      closed w v u = joined (before_next (branched w v u)) (record nowhere { next = (branched w v u).next })

  -- ---- conditions

  pub decides_asks : (place : Place) (t : Test) (k : List Known) → is_node_ready types f k (Question t) ≡ true → Decides (Asks place t) k k k
  decides_asks place t k ready = ap (λ (b : Bool). let w : Flow = record nowhere { fine = b; on_true = Some k; on_false = Some k } in w) ready

  pub decides_behind : (c : List Tree) (t : Tree) (k j on off : List Known) → Falls c k j → Decides t j on off → Decides (Then (trees c) t) k on off
  decides_behind c t k j on off first second =
      ap (λ (w : Flow). joined (before_next w) (flow types f t w.next)) first ∙ ap (joined (before_next (falling j))) second

  pub decides_both : (a b : Tree) (k on off on' off' : List Known) → Decides a k on off → Decides b on on' off' → Decides (Both a b) k on' (agreed_all off off')
  decides_both a b k on off on' off' first second =
      ap (λ (w : Flow). joined (before_true w) (flow types f b w.on_true)) first ∙ ap (joined (before_true (deciding on off))) second

  pub decides_either : (a b : Tree) (k on off on' off' : List Known) → Decides a k on off → Decides b off on' off' → Decides (Either a b) k (agreed_all on on') off'
  decides_either a b k on off on' off' first second =
      ap (λ (w : Flow). joined (before_false w) (flow types f b w.on_false)) first ∙ ap (joined (before_false (deciding on off))) second

  pub decides_negated : (a : Tree) (k on off : List Known) → Decides a k on off → Decides (Negated a) k off on
  decides_negated a k on off test = ap turned test
