-- Operators between two expressions: what is written by each row of their table.
use Rattle.std.proofs.Common.{◌≡◌, ◌⊎◌, inl, inr, ℕ, Bool, true, List, [], Option, Some, None, refl, sym, ap, ◌∙◌, subst}
use Rattle.std.proofs.lemmas.Bool.{false≢true, or_cases}
use Rattle.life_types.specs.TypeTests.{is_iterator, is_raw, is_text, is_unique, is_value}
use Rattle.life_types.specs.Types.{Types}
use Rattle.life_types.specs.declared.place.Place.{Place}
use Rattle.life_types.specs.declared.ty.Ty.{Ty}
use Rattle.life_types.specs.declared.ty.Ty.TheVariants as ty
use Rattle.life_typed.specs.Operators.{are_iterators_of_one}
use Rattle.life_typed.specs.TypedForm.{Form, Typed, binary}
use Rattle.life_typed.specs.declared.typed_expr.BinaryOperator.{BinaryOperator}
use Rattle.life_typed.specs.declared.typed_expr.Category.TheVariants as category
use Rattle.life_typed.specs.declared.typed_expr.ExprType.{ExprType}
use Rattle.life_typed.specs.declared.typed_expr.ExprType.TheVariants.{Of}
use Rattle.life_core.specs.Function.{Function}
use Rattle.life_core.specs.Operands.{Location}
use Rattle.life_core.specs.Step.{Same}
use Rattle.life_core.specs.Tree.{Tree}
use Rattle.life_well_typed.specs.Expressions.{typed_in}
use Rattle.life_writer.specs.Around.{Around, own_type}
use Rattle.life_writer.specs.ExpressionForms.{binary_uses, uses}
use Rattle.life_writer.specs.Characters.{Seen, seen, viewed}
use Rattle.life_writer.specs.Behind.{ending}
use Rattle.life_writer.specs.Conditions.{not_null, on}
use Rattle.life_writer.specs.Registers.{computed}
use Rattle.life_writer.specs.Rows.{row_between}
use Rattle.life_writer.specs.Uses.{Uses}
use Rattle.life_writer.specs.Using.{condition, nullable, pointer, value}
use Rattle.life_writer.specs.Writing.{Gives, State, ◌>>◌, gives, with_code}
use Rattle.life_writer.specs.declared.behind.Behind.{Behind}
use Rattle.life_writer.specs.declared.rows.Row.{Row}
use Rattle.life_writer.specs.declared.rows.Row.TheVariants.{Advanced, Compared, Computed, Concatenated, IsNull, Joined, NotNull}
use Rattle.life_writer.specs.declared.rows.Side.{Side}
use Rattle.life_writer.specs.declared.rows.Side.TheVariants.{Left, Right}
use Rattle.life_elab_laws.proofs.Conditions.{Tests, joined_part, negation_part, not_null_part}
use Rattle.life_elab_laws.proofs.ExpressionForms.{IsForm, IsWhole, decided_form}
use Rattle.life_elab_laws.proofs.ExpressionTypes.{nullable_raw as raw_if, own_no_iterator, own_no_text, own_no_unique, seen_kind}
use Rattle.life_elab_laws.proofs.Gifts.{a_number, a_pointer}
use Rattle.life_elab_laws.proofs.Gifts as gifts
use Rattle.life_elab_laws.proofs.Instructions.{IsIntoOf, into_of_later, operated_part, same_part}
use Rattle.life_elab_laws.proofs.Locations.{is_seen, raw_location}
use Rattle.life_elab_laws.proofs.Parts.{Makes, and_part, then_part}
use Rattle.life_elab_laws.proofs.RowTypes.{AreIterators, AreTexts, Fits, IsCompared, IsMoved, IsTested, row_fits_between, sees}
use Rattle.life_elab_laws.proofs.Setting.{Setting}
use Rattle.life_elab_laws.proofs.TypedKinds.{IsCombined, none_some, some_same}
use Rattle.life_elab_laws.proofs.VariablePlaces.{Stands, stands_later}
use Rattle.life_elab_laws.proofs.PointerForms.{seen_view, tested_pointer, view_whole}
use Rattle.life_elab_laws.proofs.TemporaryEnds.{temporary_ends}
use Rattle.life_elab_laws.proofs.OwnLocals.{first_own}

module _ (a : Around) (visible : List ℕ) (types : Types) (texts : ℕ) (fs : List Function) (f : Function) (setting : Setting a types fs f) where
  abbrev Standing : State → Type 0
  Standing s = Stands a visible s

  abbrev Valued : Ty → Option ℕ → State → Gives ℕ → Type 0
  Valued t into s w = Makes types texts fs f into s w (a_number types texts fs f t)

  abbrev Pointed : Ty → State → Gives Location → Type 0
  Pointed t s w = Makes types texts fs f None s w (a_pointer types texts fs f t)

  abbrev Decided : Option Place → State → Gives Tree → Type 0
  Decided ends s w = Tests types texts fs f ends s w

  -- ---- operators: what is written by each row

  module _ (left right : Form) (t : Ty) (l : IsWhole a visible types texts fs f setting left) (r : IsWhole a visible types texts fs f setting right) where
    abbrev Operated : Row → Place → Uses
    Operated w place = binary_uses w (uses a left) (uses a right) place (Of t) category.Value

    -- neither is a unique_ptr
    raw_on : (side : Side) → (is : IsTested (on side (typed_in left).ty (typed_in right).ty) t) → is_raw is.own ≡ true
    raw_on Left is = raw_if is.own is.nullable (sym (ap (λ (x : ExprType). is_unique (own_type x)) is.is) ∙ own_no_unique a.program.types (typed_in left) l.kind.kind)
    raw_on Right is = raw_if is.own is.nullable (sym (ap (λ (x : ExprType). is_unique (own_type x)) is.is) ∙ own_no_unique a.program.types (typed_in right) r.kind.kind)

    -- the pointer that is tested
    pointer_on : (side : Side) (s : State) → Standing s → (is : IsTested (on side (typed_in left).ty (typed_in right).ty) t) → Pointed is.own s (on side (nullable (uses a left)) (nullable (uses a right)) s)
    pointer_on Left s stands is = let raw = raw_on Left is in tested_pointer a visible types texts fs f setting left is.own s is.is raw (l.pointers is.own is.is (raw_location is.own raw) s stands)
    pointer_on Right s stands is = let raw = raw_on Right is in tested_pointer a visible types texts fs f setting right is.own s is.is raw (r.pointers is.own is.is (raw_location is.own raw) s stands)

    not_null_on : (side : Side) (place : Place) (ends : Option Place) (s : State) → Standing s → IsTested (on side (typed_in left).ty (typed_in right).ty) t → Decided ends s (not_null place ends (on side (nullable (uses a left)) (nullable (uses a right))) s)
    not_null_on side place ends s stands is = not_null_part types texts fs f place ends is.own (on side (nullable (uses a left)) (nullable (uses a right))) s (raw_on side is) _ stands.pends (temporary_ends types texts fs f (first_own a) setting.own) (pointer_on side (with_code [] s) stands is)

    -- neither is a string or an iterator
    no_texts : AreTexts (typed_in left).ty (typed_in right).ty t → ⊥
    no_texts fit = go (or_cases (is_text (own_type (typed_in left).ty)) (is_text (own_type (typed_in right).ty)) fit.string)
      where
        go : (is_text (own_type (typed_in left).ty) ≡ true) ⊎ (is_text (own_type (typed_in right).ty) ≡ true) → ⊥
        go (inl e) = false≢true (sym (own_no_text a.program.types (typed_in left) l.kind.kind) ∙ e)
        go (inr e) = false≢true (sym (own_no_text a.program.types (typed_in right) r.kind.kind) ∙ e)

    no_move : IsMoved (typed_in left).ty (typed_in right).ty t → ⊥
    no_move fit = false≢true (sym (own_no_iterator a.program.types (typed_in left) l.kind.kind) ∙ ap (λ (x : ExprType). is_iterator (own_type x)) fit.left ∙ fit.iterator)

    row_worth : (w : Row) → Fits w (typed_in left).ty (typed_in right).ty t → is_value t ≡ true
    row_worth (Computed by common) fit = fit.worth
    row_worth (Joined join) fit = fit.worth
    row_worth (IsNull side) fit = fit.worth
    row_worth (NotNull side) fit = fit.worth
    row_worth (Compared equal) fit = ap is_value fit.answers
    row_worth Concatenated fit = absurd (no_texts fit)
    row_worth (Advanced direction) fit = absurd (no_move fit)

    -- two views, of which one is no literal
    both_seen : (fit : IsCompared (typed_in left).ty (typed_in right).ty t) → (is_seen (typed_in left).ty ≡ true) × (is_seen (typed_in right).ty ≡ true)
    both_seen fit = go fit.operands
      where
        one : (first second : Ty) → are_iterators_of_one first second ≡ true → is_iterator first ≡ true
        one (ty.Iterator target constant) second e = refl
        one _ second e = absurd (false≢true e)

        go : ((sees (typed_in left).ty ≡ true) × (sees (typed_in right).ty ≡ true)) ⊎ AreIterators (typed_in left).ty (typed_in right).ty → (is_seen (typed_in left).ty ≡ true) × (is_seen (typed_in right).ty ≡ true)
        go (inl s) = (seen_kind a.program.types (typed_in left) l.kind.kind s.0, seen_kind a.program.types (typed_in right) r.kind.kind s.1)
        go (inr is) = absurd (false≢true (sym (own_no_iterator a.program.types (typed_in left) l.kind.kind) ∙ ap (λ (x : ExprType). is_iterator (own_type x)) is.left ∙ one is.first is.second is.one))

    compared_part : (equal : Bool) (place : Place) (into : Option ℕ) (s : State) → IsCompared (typed_in left).ty (typed_in right).ty t → is_value t ≡ true → IsIntoOf t s into → Standing s
        → Valued t into s (seen (uses a left) s >> λ x s. seen (uses a right) s >> λ y s. viewed x s >> λ p s. viewed y s >> λ q s. computed into t place (λ n. Same n p q equal) s)
    compared_part equal place into s fit v wanted stands =
        let both = both_seen fit in
        let x = pointer (uses a left) ty.View s in
        let y = pointer (uses a right) ty.View x.state in
        let first = view_whole a visible types texts fs f setting left l both.0 s stands in
        let second = view_whole a visible types texts fs f setting right r both.1 x.state (stands_later a visible s x.state first.grown stands) in
        let P = a_pointer types texts fs f ty.View in
        subst (Valued t into s)
        (sym (ap (λ (w : Gives Seen). w >> λ x s. seen (uses a right) s >> λ y s. viewed x s >> λ p s. viewed y s >> λ q s. computed into t place (λ n. Same n p q equal) s) (seen_view a visible types texts fs f setting left both.0 s)
        ∙ ap (λ (w : Gives Seen). w >> λ z s. viewed z s >> λ q s. computed into t place (λ n. Same n x.given q equal) s) (seen_view a visible types texts fs f setting right both.1 x.state)))
        (then_part types texts fs f (gifts.nothing types texts fs f) tt into s (gives (x.given, y.given) y.state) _ (gifts.both types texts fs f P P) (a_number types texts fs f t) stands.opened
        (and_part types texts fs f (gifts.nothing types texts fs f) tt s x y P P stands.opened first second)
        (same_part types texts fs f into t place equal (x.given, y.given) y.state fit.answers v (into_of_later t x.state y.state into second.grown (into_of_later t s x.state into first.grown wanted))))

    row_decides : (w : Row) → Fits w (typed_in left).ty (typed_in right).ty t → (place : Place) (b : Behind) (by : State → Gives Tree) → (Operated w place).decision b ≡ Some by → (s : State) → Standing s → Decided b.ends s (by s)
    row_decides (Joined join) fit place b by at s stands =
        let first = l.conditions fit.left (ending place) s stands in
        subst (λ (v : State → Gives Tree). Decided b.ends s (v s)) (some_same at)
        (joined_part types texts fs f join b.ends place b.token (condition (uses a left) (ending place)) (condition (uses a right) (ending b.token)) s first
        (r.conditions fit.right (ending b.token) (condition (uses a left) (ending place) s).state (stands_later a visible s (condition (uses a left) (ending place) s).state first.grown stands)))
    row_decides (IsNull side) fit place b by at s stands =
        subst (λ (v : State → Gives Tree). Decided b.ends s (v s)) (some_same at)
        (negation_part types texts fs f b.ends (not_null place b.ends (on side (nullable (uses a left)) (nullable (uses a right)))) s (not_null_on side place b.ends s stands fit))
    row_decides (NotNull side) fit place b by at s stands = subst (λ (v : State → Gives Tree). Decided b.ends s (v s)) (some_same at) (not_null_on side place b.ends s stands fit)
    row_decides (Computed by common) fit place b w at s stands = absurd (none_some at)
    row_decides Concatenated fit place b w at s stands = absurd (no_texts fit)
    row_decides (Advanced direction) fit place b w at s stands = absurd (no_move fit)
    row_decides (Compared equal) fit place b w at s stands = absurd (none_some at)

    row_computes : (w : Row) → Fits w (typed_in left).ty (typed_in right).ty t → is_value t ≡ true → (place : Place) (b : Behind) → (Operated w place).decision b ≡ None → (into : Option ℕ) (s : State) → IsIntoOf t s into → Standing s
        → Valued t into s ((Operated w place).made b.token into s)
    row_computes (Computed by common) fit v place b none into s wanted stands =
        let first = l.valued fit.left b.token common fit.value None s tt stands in
        operated_part types texts fs f into common t place by (value (uses a left) b.token common None) (value (uses a right) b.token common None) s fit.promoted fit.answers v wanted stands.opened first
        (r.valued fit.right b.token common fit.value None (value (uses a left) b.token common None s).state tt (stands_later a visible s (value (uses a left) b.token common None s).state first.grown stands))
    row_computes (Joined join) fit v place b none into s wanted stands = absurd (none_some (sym none))
    row_computes (IsNull side) fit v place b none into s wanted stands = absurd (none_some (sym none))
    row_computes (NotNull side) fit v place b none into s wanted stands = absurd (none_some (sym none))
    row_computes Concatenated fit v place b none into s wanted stands = absurd (no_texts fit)
    row_computes (Advanced direction) fit v place b none into s wanted stands = absurd (no_move fit)
    row_computes (Compared equal) fit v place b none into s wanted stands = compared_part equal place into s fit v wanted stands

    row_lands : (w : Row) → Fits w (typed_in left).ty (typed_in right).ty t → (place : Place) (b : Behind) → (Operated w place).decision b ≡ None → (r : ℕ) (s : State) → ((Operated w place).made b.token (Some r) s).given ≡ r
    row_lands (Computed by common) fit place b none r s = refl
    row_lands (Joined join) fit place b none r s = absurd (none_some (sym none))
    row_lands (IsNull side) fit place b none r s = absurd (none_some (sym none))
    row_lands (NotNull side) fit place b none r s = absurd (none_some (sym none))
    row_lands Concatenated fit place b none r s = absurd (no_texts fit)
    row_lands (Advanced direction) fit place b none r s = absurd (no_move fit)
    row_lands (Compared equal) fit place b none r s = refl

  pub binary_form : (o : BinaryOperator) (left right : Form) (e : Typed) → IsCombined o (typed_in left) (typed_in right) e → IsWhole a visible types texts fs f setting left → IsWhole a visible types texts fs f setting right
      → IsForm a visible types texts fs f setting (binary o left right) e
  binary_form o left right e c l r =
      decided_form a visible types texts fs f setting (binary o left right) e c.ty c.is.0 c.is.1 v refl
      (row_computes left right c.ty l r (row_between o left right) fit v)
      (row_lands left right c.ty l r (row_between o left right) fit)
      (row_decides left right c.ty l r (row_between o left right) fit)
    where
      fit : Fits (row_between o left right) (typed_in left).ty (typed_in right).ty c.ty
      fit = row_fits_between o left right c.ty c.answer

      v : is_value c.ty ≡ true
      v = row_worth left right c.ty l r (row_between o left right) fit
