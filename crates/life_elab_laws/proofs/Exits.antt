-- What is known between statements: each living variable is there, and no other one is.
use Rattle.std.proofs.Common.{◌≡◌, ℕ, zero, suc, Bool, true, false, List, [], ◌∷◌, length, slice_get, Some, None, refl, sym, ◌∙◌, subst, arith}
use Rattle.std.proofs.lemmas.Bool.{and_from}
use Rattle.life_types.specs.Types.{Types}
use Rattle.life_core.specs.Function.{Function}
use Rattle.life_core.specs.Tree.{Tree}
use Rattle.life_core.specs.declared.program.Local.{Local}
use Rattle.life_proper.specs.declared.known.Known.{Known}
use Rattle.life_proper.specs.declared.known.Known.TheVariants as known
use Rattle.life_proper.specs.Checking.{Flow, before_next, flow, joined}
use Rattle.life_proper.specs.Knowing.{State, agreed_all, are_implied, forgotten, is_implied, known_at, met, is_forgotten}
use Rattle.life_elab_laws.proofs.Among.{Among}
use Rattle.life_elab_laws.proofs.Falling.{falling}
use Rattle.life_elab_laws.proofs.Knowledge.{agreed_length, at_agreed}
use Rattle.life_elab_laws.proofs.Nowhere.{IsNowhere, none_met, nowhere_flows}
use Rattle.life_elab_laws.proofs.Shaped.{is_passing}

module _ (f : Function) where
  -- these variables live, and nothing else does but what is passing
  pub record Knows (living : List ℕ) (k : List Known) : Type 0 where
    pub sized : length k ≡ length f.locals
    pub alive : (y : ℕ) → Among y living → known_at k y ≡ known.Ready
    pub blank : (y : ℕ) (l : Local) → slice_get f.locals y ≡ Some l → is_passing l ≡ false → (Among y living → ⊥) → known_at k y ≡ known.Blank

  -- .. where some way comes
  abbrev pub MayKnow : List ℕ → State → Type 0
  MayKnow living None = Unit {0}
  MayKnow living (Some k) = Knows living k

  -- what lives isn't passing
  abbrev pub AreLasting : List ℕ → Type 0
  AreLasting living = (y : ℕ) → Among y living → (l : Local) × (slice_get f.locals y ≡ Some l) × (is_passing l ≡ false)

  -- what knows the same
  pub knows_same : (living : List ℕ) (k j : List Known) → length j ≡ length k → ((y : ℕ) → known_at j y ≡ known_at k y) → Knows living k → Knows living j
  knows_same living k j sized same h = record { sized = sized ∙ h.sized; alive = λ y m. same y ∙ h.alive y m; blank = λ y l there lasts c. same y ∙ h.blank y l there lasts c }

  -- ---- where two ways meet

  agreed_at : (living : List ℕ) (k j : List Known) (y : ℕ) → Knows living k → Knows living j → known_at k y ≡ known_at j y → known_at (agreed_all k j) y ≡ known_at k y
  agreed_at living k j y a b e = at_agreed k j y (a.sized ∙ sym b.sized) e

  pub knows_agreed : (living : List ℕ) (k j : List Known) → Knows living k → Knows living j → Knows living (agreed_all k j)
  knows_agreed living k j a b = record {
    sized = agreed_length k j (a.sized ∙ sym b.sized) ∙ a.sized;
    alive = λ y c. agreed_at living k j y a b (a.alive y c ∙ sym (b.alive y c)) ∙ a.alive y c;
    blank = λ y l there lasts c. agreed_at living k j y a b (a.blank y l there lasts c ∙ sym (b.blank y l there lasts c)) ∙ a.blank y l there lasts c;
  }

  pub may_met : (living : List ℕ) (s t : State) → MayKnow living s → MayKnow living t → MayKnow living (met s t)
  may_met living None t a b = b
  may_met living (Some k) None a b = a
  may_met living (Some k) (Some j) a b = knows_agreed living k j a b

  -- ---- the ways out of a statement

  -- .. of one in a loop, or of one outside
  abbrev pub MayLeave : Bool → List ℕ → State → Type 0
  MayLeave true outside s = MayKnow outside s
  MayLeave false outside s = s ≡ None

  pub record Leaves (in_loop : Bool) (living outside : List ℕ) (w : Flow) : Type 0 where
    pub fine : w.fine ≡ true
    pub next : MayKnow living w.next
    pub on_break : MayLeave in_loop outside w.on_break
    pub on_continue : MayLeave in_loop outside w.on_continue
    pub on_true : w.on_true ≡ None
    pub on_false : w.on_false ≡ None

  may_leave_met : (in_loop : Bool) (outside : List ℕ) (s t : State) → MayLeave in_loop outside s → MayLeave in_loop outside t → MayLeave in_loop outside (met s t)
  may_leave_met true outside s t a b = may_met outside s t a b
  may_leave_met false outside s t a b = none_met s t a b

  pub leaves_joined : (in_loop : Bool) (living outside : List ℕ) (w v : Flow) → Leaves in_loop living outside w → Leaves in_loop living outside v → Leaves in_loop living outside (joined w v)
  leaves_joined in_loop living outside w v a b = record {
    fine = and_from w.fine v.fine a.fine b.fine;
    next = may_met living w.next v.next a.next b.next;
    on_break = may_leave_met in_loop outside w.on_break v.on_break a.on_break b.on_break;
    on_continue = may_leave_met in_loop outside w.on_continue v.on_continue a.on_continue b.on_continue;
    on_true = none_met w.on_true v.on_true a.on_true b.on_true;
    on_false = none_met w.on_false v.on_false a.on_false b.on_false;
  }

  -- one before another one, which begins with what it leaves
  pub leaves_then : (in_loop : Bool) (living later outside : List ℕ) (w v : Flow) → Leaves in_loop living outside w → Leaves in_loop later outside v → Leaves in_loop later outside (joined (before_next w) v)
  leaves_then in_loop living later outside w v a b =
      leaves_joined in_loop later outside (before_next w) v
      (record { fine = a.fine; next = tt; on_break = a.on_break; on_continue = a.on_continue; on_true = a.on_true; on_false = a.on_false })
      b

  pub leaves_same : (in_loop : Bool) (living living' outside outside' : List ℕ) (w : Flow) → living ≡ living' → outside ≡ outside' → Leaves in_loop living outside w → Leaves in_loop living' outside' w
  leaves_same in_loop living living' outside outside' w e d h =
      subst (λ (xs : List ℕ). Leaves in_loop xs outside' w) e (subst (λ (xs : List ℕ). Leaves in_loop living xs w) d h)

  -- no way leaves
  pub none_leaves : (b : Bool) (outside : List ℕ) → MayLeave b outside None
  none_leaves true outside = tt
  none_leaves false outside = refl

  pub leaves_nowhere : (in_loop : Bool) (living outside : List ℕ) (w : Flow) → IsNowhere w → Leaves in_loop living outside w
  leaves_nowhere in_loop living outside w h = record {
    fine = h.fine;
    next = subst (MayKnow living) (sym h.next) tt;
    on_break = none in_loop w.on_break h.on_break;
    on_continue = none in_loop w.on_continue h.on_continue;
    on_true = h.on_true;
    on_false = h.on_false;
  }
    where
      none : (b : Bool) (o : State) → o ≡ None → MayLeave b outside o
      none true o e = subst (MayKnow outside) (sym e) tt
      none false o e = e

  pub leaves_falling : (in_loop : Bool) (living outside : List ℕ) (k : List Known) → Knows living k → Leaves in_loop living outside (falling k)
  leaves_falling in_loop living outside k h = record { fine = refl; next = h; on_break = none_leaves in_loop outside; on_continue = none_leaves in_loop outside; on_true = refl; on_false = refl }

-- control that comes or not
pub leaves_may : (types : Types) (f : Function) (in_loop : Bool) (before after outside : List ℕ) (t : Tree) → ((k : List Known) → Knows f before k → Leaves f in_loop after outside (flow types f t (Some k)))
    → (o : State) → MayKnow f before o → Leaves f in_loop after outside (flow types f t o)
leaves_may types f in_loop before after outside t some None h = leaves_nowhere f in_loop after outside (flow types f t None) (nowhere_flows types f t None refl)
leaves_may types f in_loop before after outside t some (Some k) h = some k h

-- ---- loops

pub implied_same : (a b : Known) → b ≡ a → is_implied a b ≡ true
implied_same known.Unknown b e = refl
implied_same known.Blank b e = subst (λ (c : Known). is_implied known.Blank c ≡ true) (sym e) refl
implied_same known.Ready b e = subst (λ (c : Known). is_implied known.Ready c ≡ true) (sym e) refl

-- what is known at the head is known on the way back, where that is so of all that isn't forgotten at the head
pub forgotten_implied : (ls : List Local) (k j : List Known) → length k ≡ length ls → length j ≡ length ls
    → ((y : ℕ) (l : Local) → slice_get ls y ≡ Some l → is_forgotten l (known_at k y) ≡ false → is_implied (known_at k y) (known_at j y) ≡ true) → are_implied (forgotten ls k) j ≡ true
forgotten_implied [] [] j a b h = refl
forgotten_implied [] (x ∷ k) j a b h = absurd (omega (arith, a))
forgotten_implied (l ∷ ls) [] j a b h = refl
forgotten_implied (l ∷ ls) (x ∷ k) [] a b h = absurd (omega (arith, b))
forgotten_implied (l ∷ ls) (x ∷ k) (y ∷ j) a b h = go (is_forgotten l x) refl (forgotten_implied ls k j (omega (arith, a)) (omega (arith, b)) (λ n. h (suc n)))
  where
    go : (m : Bool) → is_forgotten l x ≡ m → are_implied (forgotten ls k) j ≡ true → are_implied (forgotten (l ∷ ls) (x ∷ k)) (y ∷ j) ≡ true
    go true e rest = rw e rest
    go false e rest = rw e (and_from (is_implied x y) (are_implied (forgotten ls k) j) (h zero l refl e) rest)
