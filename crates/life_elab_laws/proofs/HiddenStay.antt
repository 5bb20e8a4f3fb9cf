-- A hidden range or iterator that is there stays there on every way: nothing ends it, and the head of a loop doesn't forget it.
use Rattle.std.proofs.Common.{◌≡◌, inl, inr, ℕ, zero, suc, Bool, true, false, ◌&&◌, not, if◌then◌else◌, List, [], ◌∷◌, ◌++◌, flat_map, slice_get, slice_set, Option, Some, None, is_none, refl, sym, ap, ◌∙◌, arith}
use Rattle.std.proofs.lemmas.Bool.{and_parts, false≢true}
use Rattle.std.proofs.lemmas.List.Folds.{list_all-append}
use Rattle.std.proofs.lemmas.Option.{same_Some, slice_get_within}
use Rattle.std.specs.List.{list_all}
use Rattle.life_types.specs.Types.{Types}
use Rattle.life_types.specs.declared.place.Place.{Place}
use Rattle.life_types.specs.declared.ty.NameId.{NameId}
use Rattle.life_core.specs.Function.{Function}
use Rattle.life_core.specs.Kinds.{has_kind, is_object, is_object_at}
use Rattle.life_core.specs.Operands.{Argument, GivenOver, PointerOf, Slot, Value}
use Rattle.life_core.specs.Step.{Call, Change, Changes, End, Make, PushBack, Step}
use Rattle.life_core.specs.Touched.{argument_leaves, change_leaves, if_object, made_leaves, touched_by}
use Rattle.life_core.specs.Tree.{Acts, Asks, Both, Breaks, Choice, Continues, Either, Negated, Returns, Skip, Spot, Stops, Then, Tree, Turns, spots}
use Rattle.life_core.specs.declared.instr.Made.{Made}
use Rattle.life_core.specs.declared.instr.Made.TheVariants as made
use Rattle.life_core.specs.declared.program.Local.{Local}
use Rattle.life_core.specs.declared.program.LocalKind.{LocalKind}
use Rattle.life_core.specs.declared.program.LocalKind.TheVariants.{Range}
use Rattle.life_proper.specs.Checking.{Flow, before_both, before_false, before_next, before_true, flow, joined, of_body, of_step, of_test}
use Rattle.life_proper.specs.Knowing.{State, agreed, agreed_all, at_head, forgotten, is_forgotten, is_lost, known_at, met}
use Rattle.life_proper.specs.ReadyKnown.{known_after, set_known}
use Rattle.life_proper.specs.declared.known.Known.{Known}
use Rattle.life_proper.specs.declared.known.Known.TheVariants as known
use Rattle.life_elab_laws.proofs.Among.{Among, among_either}
use Rattle.life_elab_laws.proofs.Ending.{blank_beside}
use Rattle.life_elab_laws.proofs.Exits.{Knows}
use Rattle.life_elab_laws.proofs.Knowledge.{at_set, beside_set, set_length}
use Rattle.life_elab_laws.proofs.Shaped.{is_passing}
use Rattle.life_elab_laws.proofs.Shaping.{ends_lasting, is_lasting, keeps_its_target, lasts_at, spot_keeps, step_keeps, tree_keeps}

-- ---- what is known of one local

unknown : ◌≡◌ {A = Known} known.Unknown known.Ready → ⊥
unknown e = cc

set_ready : (k : List Known) (x y : ℕ) → known_at k y ≡ known.Ready → known_at (slice_set k x known.Ready) y ≡ known.Ready
set_ready [] x y e = e
set_ready (b ∷ k) zero zero e = refl
set_ready (b ∷ k) zero (suc y) e = e
set_ready (b ∷ k) (suc x) zero e = e
set_ready (b ∷ k) (suc x) (suc y) e = set_ready k x y e

all_ready : (xs : List ℕ) (k : List Known) (y : ℕ) → known_at k y ≡ known.Ready → known_at (set_known known.Ready xs k) y ≡ known.Ready
all_ready [] k y e = e
all_ready (x ∷ xs) k y e = all_ready xs (slice_set k x known.Ready) y (set_ready k x y e)

agreed_ready : (k j : List Known) (y : ℕ) → known_at k y ≡ known.Ready → known_at j y ≡ known.Ready → known_at (agreed_all k j) y ≡ known.Ready
agreed_ready [] j y e g = absurd (unknown e)
agreed_ready (a ∷ k) [] y e g = absurd (unknown g)
agreed_ready (a ∷ k) (b ∷ j) zero e g = ap (λ (c : Known). agreed c b) e ∙ ap (agreed known.Ready) g
agreed_ready (a ∷ k) (b ∷ j) (suc y) e g = agreed_ready k j y e g

never_both : (b : Bool) → (b && false) ≡ false
never_both true = refl
never_both false = refl

-- the head of a loop keeps it
head_ready : (ls : List Local) (k : List Known) (y : ℕ) (l : Local) → slice_get ls y ≡ Some l → l.kind ≡ Range → known_at k y ≡ known.Ready → known_at (forgotten ls k) y ≡ known.Ready
head_ready [] k y l at kind e = e
head_ready (u ∷ ls) [] y l at kind e = e
head_ready (u ∷ ls) (x ∷ k) zero l at kind e = rw here e
  where
    here : is_forgotten u x ≡ false
    here =
        ap (λ (a : Known). is_none u.name && is_lost u.kind a) e
        ∙ ap (λ (k : LocalKind). is_none u.name && is_lost k known.Ready) (ap (λ (v : Local). v.kind) (same_Some u l at) ∙ kind)
        ∙ never_both (is_none u.name)
head_ready (u ∷ ls) (x ∷ k) (suc y) l at kind e = head_ready ls k y l at kind e

-- ---- hidden

pub record IsHidden (f : Function) (y : ℕ) : Type 0 where
  pub local : Local
  pub there : slice_get f.locals y ≡ Some local
  pub nameless : local.name ≡ None
  pub kind : local.kind ≡ Range

-- it passes
pub hidden_passes : (f : Function) (y : ℕ) → (is : IsHidden f y) → is_passing is.local ≡ true
hidden_passes f y is = ap (λ (o : Option NameId). is_none o && not (is_object is.local.kind)) is.nameless ∙ ap (λ (k : LocalKind). not (is_object k)) is.kind

-- .. so it may be there wherever these live, and all that is there besides is
pub hidden_known : (f : Function) (y : ℕ) → IsHidden f y → (living : List ℕ) (k : List Known) → Knows f living k
    → (j : List Known) × Knows f living j × (known_at j y ≡ known.Ready) × ((x : ℕ) → known_at k x ≡ known.Ready → known_at j x ≡ known.Ready)
hidden_known f y is living k knows =
    let within = slice_get_within f.locals y is.local is.there in (
      slice_set k y known.Ready,
      record {
        sized = set_length k y known.Ready ∙ knows.sized;
        alive = λ x m. set_ready k y x (knows.alive x m);
        blank = λ x l there lasts none. beside_set k y x known.Ready (passes_not x l there lasts) ∙ knows.blank x l there lasts none;
      },
      at_set k y known.Ready (omega (arith, within, knows.sized)),
      λ x e. set_ready k y x e,
    )
  where
    passes_not : (x : ℕ) (l : Local) → slice_get f.locals x ≡ Some l → is_passing l ≡ false → y ≡ x → ⊥
    passes_not x l there lasts same =
        false≢true (sym lasts ∙ ap is_passing (same_Some l is.local (sym there ∙ ap (slice_get f.locals) (sym same) ∙ is.there)) ∙ hidden_passes f y is)

module _ (f : Function) (y : ℕ) where
  -- it is there where some way comes
  abbrev pub Has : State → Type 0
  Has None = Unit {0}
  Has (Some k) = known_at k y ≡ known.Ready

  -- .. at each exit
  pub record HasAll (w : Flow) : Type 0 where
    pub next : Has w.next
    pub on_break : Has w.on_break
    pub on_continue : Has w.on_continue
    pub on_true : Has w.on_true
    pub on_false : Has w.on_false

  pub has_met : (s t : State) → Has s → Has t → Has (met s t)
  has_met None t a b = b
  has_met (Some k) None a b = a
  has_met (Some k) (Some j) a b = agreed_ready k j y a b

  has_joined : (w v : Flow) → HasAll w → HasAll v → HasAll (joined w v)
  has_joined w v a b = record {
    next = has_met w.next v.next a.next b.next;
    on_break = has_met w.on_break v.on_break a.on_break b.on_break;
    on_continue = has_met w.on_continue v.on_continue a.on_continue b.on_continue;
    on_true = has_met w.on_true v.on_true a.on_true b.on_true;
    on_false = has_met w.on_false v.on_false a.on_false b.on_false;
  }

  -- ---- nothing ends it

  module _ (is : IsHidden f y) where
    no_object : is_object_at f y ≡ false
    no_object = ap (has_kind is_object) is.there ∙ ap is_object is.kind

    no_lasting : lasts_at f y ≡ false
    no_lasting =
        ap is_lasting is.there
        ∙ ap (λ (k : LocalKind). not (is_none is.local.name && not (is_object k))) is.kind
        ∙ ap (λ (o : Option NameId). not (is_none o && true)) is.nameless

    spares_objects : (x : ℕ) → Among y (if_object f x) → ⊥
    spares_objects x m = go (is_object_at f x) refl m
      where
        go : (b : Bool) → is_object_at f x ≡ b → Among y (if b then x ∷ [] else []) → ⊥
        go false e m = m
        go true e (inl same) = false≢true (sym no_object ∙ ap (is_object_at f) (sym same) ∙ e)
        go true e (inr none) = none

    spares_ended : (xs : List ℕ) → list_all (lasts_at f) xs ≡ true → Among y xs → ⊥
    spares_ended [] h m = m
    spares_ended (x ∷ xs) h (inl same) = false≢true (sym no_lasting ∙ ap (lasts_at f) (sym same) ∙ (and_parts (lasts_at f x) (list_all (lasts_at f) xs) h).0)
    spares_ended (x ∷ xs) h (inr m) = spares_ended xs (and_parts (lasts_at f x) (list_all (lasts_at f) xs) h).1 m

    spares_argument : (x : Argument) → Among y (argument_leaves f x) → ⊥
    spares_argument (GivenOver x) m = spares_objects x m
    spares_argument (Value r) m = m
    spares_argument (PointerOf l) m = m
    spares_argument (Slot l) m = m

    spares_arguments : (xs : List Argument) → Among y (flat_map (argument_leaves f) xs) → ⊥
    spares_arguments [] m = m
    spares_arguments (x ∷ xs) m = elim (among_either (argument_leaves f x) (flat_map (argument_leaves f) xs) y m) [ inl here ↦ spares_argument x here | inr more ↦ spares_arguments xs more ]

    spares_change : (c : Change) → Among y (change_leaves f c) → ⊥
    spares_change (PushBack x) m = spares_objects x m
    spares_change _ m = m

    spares_made : (m : Made) → Among y (made_leaves f m) → ⊥
    spares_made (made.Of x) m = spares_objects x m
    spares_made _ m = m

    spares_step : (i : Step) → ends_lasting f i ≡ true → Among y (touched_by f i).leaves → ⊥
    spares_step (End xs) h m = spares_ended xs h m
    spares_step (Changes o c) h m = spares_change c m
    spares_step (Make u made) h m = spares_made made m
    spares_step (Call target g xs) h m = spares_arguments xs m
    spares_step _ h m = m

    stays_after : (i : Step) (k : List Known) → ends_lasting f i ≡ true → known_at k y ≡ known.Ready → known_at (known_after (touched_by f i) k) y ≡ known.Ready
    stays_after i k h e =
        let t = touched_by f i in
        all_ready (t.births ++ t.writes) (set_known known.Blank t.leaves k) y (blank_beside t.leaves k y (spares_step i h) ∙ e)

    -- ---- on every way

    module _ (types : Types) where
      two : (a b : List Spot) → list_all (spot_keeps f) (a ++ b) ≡ true → (list_all (spot_keeps f) a ≡ true) × (list_all (spot_keeps f) b ≡ true)
      two a b h = and_parts (list_all (spot_keeps f) a) (list_all (spot_keeps f) b) (sym (list_all-append (spot_keeps f) a b) ∙ h)

      ends_of : (i : Step) → (step_keeps f i && true) ≡ true → ends_lasting f i ≡ true
      ends_of i h = (and_parts (ends_lasting f i) (keeps_its_target i) (and_parts (step_keeps f i) true h).0).0

      acting_stays : (place : Place) (i : Step) (o : State) → (step_keeps f i && true) ≡ true → Has o → HasAll (flow types f (Acts place i) o)
      acting_stays place i None h e = record { next = tt; on_break = tt; on_continue = tt; on_true = tt; on_false = tt }
      acting_stays place i (Some k) h e = record { next = stays_after i k (ends_of i h) e; on_break = tt; on_continue = tt; on_true = tt; on_false = tt }

      pub at_head_stays : (o : State) → Has o → Has (at_head f.locals o)
      at_head_stays None e = tt
      at_head_stays (Some k) e = head_ready f.locals k y is.local is.there is.kind e

      pub stays : (t : Tree) (o : State) → tree_keeps f t ≡ true → Has o → HasAll (flow types f t o)
      stays Skip o h e = record { next = e; on_break = tt; on_continue = tt; on_true = tt; on_false = tt }
      stays (Then a b) o h e =
          let parts = two (spots a) (spots b) h in
          let w = flow types f a o in
          let one = stays a o parts.0 e in
          has_joined (before_next w) (flow types f b w.next) (record { next = tt; on_break = one.on_break; on_continue = one.on_continue; on_true = one.on_true; on_false = one.on_false })
          (stays b w.next parts.1 one.next)
      stays (Acts place i) o h e = acting_stays place i o h e
      stays (Asks place t) o h e = record { next = tt; on_break = tt; on_continue = tt; on_true = e; on_false = e }
      stays (Both a b) o h e =
          let parts = two (spots a) (spots b) h in
          let w = flow types f a o in
          let one = stays a o parts.0 e in
          has_joined (before_true w) (flow types f b w.on_true) (record { next = one.next; on_break = one.on_break; on_continue = one.on_continue; on_true = tt; on_false = one.on_false })
          (stays b w.on_true parts.1 one.on_true)
      stays (Either a b) o h e =
          let parts = two (spots a) (spots b) h in
          let w = flow types f a o in
          let one = stays a o parts.0 e in
          has_joined (before_false w) (flow types f b w.on_false) (record { next = one.next; on_break = one.on_break; on_continue = one.on_continue; on_true = one.on_true; on_false = tt })
          (stays b w.on_false parts.1 one.on_false)
      stays (Negated a) o h e = let one = stays a o h e in record { next = one.next; on_break = one.on_break; on_continue = one.on_continue; on_true = one.on_false; on_false = one.on_true }
      stays (Choice t a b) o h e =
          let parts = two (spots t) (spots a ++ spots b) h in
          let others = two (spots a) (spots b) parts.1 in
          let w = flow types f t o in
          let one = stays t o parts.0 e in
          has_joined (before_both w) (joined (flow types f a w.on_true) (flow types f b w.on_false)) (record { next = one.next; on_break = one.on_break; on_continue = one.on_continue; on_true = tt; on_false = tt })
          (has_joined (flow types f a w.on_true) (flow types f b w.on_false) (stays a w.on_true others.0 one.on_true) (stays b w.on_false others.1 one.on_false))
      stays (Turns t body step) o h e =
          let parts = two (spots t) (spots body ++ spots step) h in
          let others = two (spots body) (spots step) parts.1 in
          let head = at_head f.locals o in
          let w = flow types f t head in
          let one = stays t head parts.0 (at_head_stays o e) in
          let v = flow types f body w.on_true in
          let inner = stays body w.on_true others.0 one.on_true in
          let back = met v.next v.on_continue in
          let u = flow types f step back in
          let after = stays step back others.1 (has_met v.next v.on_continue inner.next inner.on_continue) in
          has_joined (of_test w) (joined (of_body v) (of_step head u))
          (record { next = has_met w.next w.on_false one.next one.on_false; on_break = one.on_break; on_continue = one.on_continue; on_true = tt; on_false = tt })
          (has_joined (of_body v) (of_step head u) (record { next = inner.on_break; on_break = tt; on_continue = tt; on_true = inner.on_true; on_false = inner.on_false })
          (record { next = tt; on_break = after.on_break; on_continue = after.on_continue; on_true = after.on_true; on_false = after.on_false }))
      stays Breaks o h e = record { next = tt; on_break = e; on_continue = tt; on_true = tt; on_false = tt }
      stays Continues o h e = record { next = tt; on_break = tt; on_continue = e; on_true = tt; on_false = tt }
      stays (Returns place) o h e = record { next = tt; on_break = tt; on_continue = tt; on_true = tt; on_false = tt }
      stays (Stops place) o h e = record { next = tt; on_break = tt; on_continue = tt; on_true = tt; on_false = tt }
