-- Conditions of which an operand may be a unique_ptr: whether it owns something.
use Rattle.std.proofs.Common.{◌≡◌, ◌⊎◌, inl, inr, ℕ, true, false, List, [], ◌∷◌, Option, Some, None, refl, sym, ap, ◌∙◌, subst, Ok}
use Rattle.life_writer.specs.declared.rows.Row.TheVariants.{Advanced, Compared, Computed, Concatenated, IsNull, Joined, NotNull}
use Rattle.life_elab_laws.proofs.RowTypes.{AreIterators, AreTexts, Fits, Gains, IsCompared, IsComputed, IsMoved, IsTested, row_fits_between, sees}
use Rattle.life_writer.specs.Around.{Around, own_type}
use Rattle.life_writer.specs.Pointers.{As, located}
use Rattle.life_writer.specs.declared.behind.Behind.{Behind}
use Rattle.life_typed.specs.declared.typed_expr.BinaryOperator.{BinaryOperator}
use Rattle.life_typed.specs.TypedForm.{Form, Typed, binary, not as negated}
use Rattle.life_core.specs.Function.{Function}
use Rattle.life_core.specs.Step.{NotNull as IsNotNull}
use Rattle.life_core.specs.Tree.{Tree}
use Rattle.life_core.specs.declared.program.Local.{Local}
use Rattle.life_types.specs.declared.ty.Ty.{Ty}
use Rattle.life_types.specs.declared.ty.Ty.TheVariants as ty
use Rattle.life_typed.specs.declared.typed_expr.Category.{Category}
use Rattle.life_typed.specs.declared.typed_expr.Category.TheVariants as category
use Rattle.life_typed.specs.declared.typed_expr.ExprType.{ExprType}
use Rattle.life_elab_laws.proofs.Gifts.{Gift, a_place, held_stays, nothing as no_gift}
use Rattle.life_elab_laws.proofs.TypedKinds.{IsCombined, none_some, some_same}
use Rattle.life_elab_laws.proofs.ExpressionForms.{IsForm, IsWhole, Standing, decided_form}
use Rattle.life_elab_laws.proofs.Making.{IsHeld}
use Rattle.life_elab_laws.proofs.PendingTemporaries.{IsTemporary}
use Rattle.life_elab_laws.proofs.UniqueForms.{IsUnique, own_unique, unique_at, unique_placed}
use Rattle.life_elab_laws.proofs.AnsweredUniques.{IsHolding, answer_condition, answer_tested, holds_answer, holds_named, holding_unique}
use Rattle.life_elab_laws.proofs.VariablePlaces.{IsVariableAt, stands_later}
use Rattle.life_writer.specs.declared.rows.Side.TheVariants.{Left, Right}
use Rattle.life_elab_laws.proofs.OwnerSteps.{place_held}
use Rattle.life_elab_laws.proofs.Parts.{Makes, seen_part}
use Rattle.life_typed.specs.declared.typed_expr.ExprType.TheVariants.{NullPointer, Of, TextLiteral}
use Rattle.life_core.specs.declared.operation.Operator.{Operator}
use Rattle.life_types.specs.declared.place.Place.{Place}
use Rattle.life_writer.specs.declared.rows.Row.{Row}
use Rattle.life_elab_laws.proofs.Setting.{Setting}
use Rattle.life_writer.specs.declared.rows.Side.{Side}
use Rattle.life_elab_laws.proofs.Conditions.{Tests, joined_part, negation_part, not_null_part, tested_part}
use Rattle.life_types.specs.declared.ty.TyId.{TyId}
use Rattle.life_types.specs.Types.{Types}
use Rattle.life_writer.specs.Uses.{Uses, own}
use Rattle.life_typed.specs.Operators.{are_iterators_of_one, is_condition}
use Rattle.life_elab_laws.proofs.OperatorForms.{binary_form}
use Rattle.life_writer.specs.ExpressionForms.{binary_uses, uses}
use Rattle.life_writer.specs.Using.{condition, condition_by, location_in, nullable, owned_by, pointing_by, read_or_made, temporary_of, tested_type}
use Rattle.life_writer.specs.Behind.{ending}
use Rattle.std.proofs.lemmas.Bool.{false≢true, or_right}
use Rattle.life_writer.specs.Writing.{Gives, State, ◌>>◌, gives, mapped, with_code}
use Rattle.life_elab_laws.proofs.PointerForms.{held_typed, tested_pointer}
use Rattle.life_type_expr.specs.Operands.{inverted}
use Rattle.life_elab_laws.proofs.ExpressionKinds.{inverted_as}
use Rattle.life_types.specs.TypeTests.{is_iterator, is_raw, is_unique, is_value}
use Rattle.life_well_typed.specs.Given.{is_number}
use Rattle.life_elab_laws.proofs.TypeKinds.{is_unique_type}
use Rattle.life_elab_laws.proofs.UniqueSteps.{lying_type}
use Rattle.life_writer.specs.Conditions.{not_null, on}
use Rattle.life_elab_laws.proofs.Held.{one_there}
use Rattle.life_elab_laws.proofs.ExpressionTypes.{nullable_raw as raw_if, own_no_unique}
use Rattle.life_elab_laws.proofs.Locations.{raw_location}
use Rattle.life_writer.specs.Rows.{row_between}
use Rattle.std.proofs.lemmas.Option.{same_Some}
use Rattle.life_elab_laws.proofs.TemporaryEnds.{temporary_ends}
use Rattle.life_proper.specs.Placed.{type_in}
use Rattle.life_well_typed.specs.Expressions.{typed_in}
use Rattle.life_proper.proofs.ReadyTests.{uses_ready}
use Rattle.life_core.specs.Operands.{Location, Name, Operand}
use Rattle.life_elab_laws.proofs.OwnLocals.{first_own}

module _ (a : Around) (visible : List ℕ) (types : Types) (texts : ℕ) (fs : List Function) (f : Function) (setting : Setting a types fs f) where
  abbrev Stood : State → Type 0
  Stood s = Standing a visible types texts fs f setting s

  -- ---- where a unique_ptr lies that is in a variable

  pub record IsNamedUnique (target : TyId) (l : Location) : Type 0 where
    pub typed : type_in types f l ≡ ty.Unique target
    -- it is no temporary, which may end before it is tested
    pub lasts : (low : ℕ) → IsTemporary low f.locals types.types l.local → ⊥

  abbrev a_named : TyId → Gift types texts fs f Location
  a_named target = record {
    typed = IsNamedUnique target;
    ready = λ l n k. IsHeld l.local n k;
    stays = λ l n m k j h p keeps. held_stays types texts fs f l.local n m k j h p keeps;
  }

  module _ (form : Form) (is : IsUnique a visible types texts fs f setting form) where
    abbrev at : State → Location
    at s = unique_at a visible types texts fs f setting form is s

    named_part : (s : State) → Stood s → Makes types texts fs f None s (gives (at s) s) (a_named is.target)
    named_part s stands =
        seen_part types texts fs f (no_gift types texts fs f) tt None s (gives (Name (at s)) s) (a_place types texts fs f (ty.Unique is.target) false) location_in (a_named is.target)
        (unique_placed a visible types texts fs f setting form is s stands)
        (λ b q. record {
          typed = lying_type types texts fs f is.target false (at s) q;
          lasts = λ low t. none_some (sym t.nameless ∙ ap (λ (l : Local). l.name) (same_Some t.local v.local (sym t.there ∙ b.locals (at s).local v.local v.there)) ∙ v.named);
        })
        (λ n k q. (place_held (Name (at s)) n k q).0)
      where
        v : IsVariableAt a s is.lies.number is.lies.declared
        v = stands.seen is.lies.number is.lies.declared is.lies.seen is.lies.found

    -- it is tested where it lies
    nullable_is : (s : State) → Stood s → nullable (uses a form) s ≡ gives (at s) s
    nullable_is s stands =
        ap (λ (t : Ty). pointing_by t (uses a form) s >> λ p s. located (uses a form).place (tested_type t) p s) (own_unique a visible types texts fs f setting form is)
        ∙ ap (λ (c : Category). owned_by c (uses a form).at (temporary_of (uses a form) (own (uses a form))) s >> λ p s. located (uses a form).place (tested_type (ty.Unique is.target)) p s) (sym (held_typed a visible types texts fs f setting form) ∙ is.place)
        ∙ ap (λ (w : Gives Operand). mapped (λ o. As (location_in o)) w >> λ p s. located (uses a form).place (tested_type (ty.Unique is.target)) p s) (is.lies.here s stands)

    unique_tested : (place : Place) (ends : Option Place) (s : State) → Stood s → Tests types texts fs f ends s (not_null place ends (nullable (uses a form)) s)
    unique_tested place ends s stands =
        tested_part types texts fs f place IsNotNull s (nullable (uses a form) (with_code [] s)) (a_named is.target)
        (λ l n k j at h spares. uses_ready j (l.local ∷ []) [] (one_there j l.local (spares l.local at.lasts ∙ h.1)))
        (λ l h. or_right (is_raw (type_in types f l)) (is_unique (type_in types f l)) (ap is_unique h.typed))
        (subst (λ (w : Gives Location). Makes types texts fs f None (with_code [] s) w (a_named is.target)) (sym (nullable_is (with_code [] s) stands)) (named_part (with_code [] s) stands))
        ends _ stands.pends (temporary_ends types texts fs f (first_own a) setting.own)

    unique_condition : (b : Behind) (s : State) → Stood s → Tests types texts fs f b.ends s (condition (uses a form) b s)
    unique_condition b s stands =
        subst (λ (d : Option (State → Gives Tree)). Tests types texts fs f b.ends s (condition_by d (own (uses a form)) (uses a form).place b.ends (nullable (uses a form)) (read_or_made (uses a form) b.token None) s)) (sym (is.undecided b))
        (subst (λ (t : Ty). Tests types texts fs f b.ends s (condition_by None t (uses a form).place b.ends (nullable (uses a form)) (read_or_made (uses a form) b.token None) s)) (sym (own_unique a visible types texts fs f setting form is))
        (unique_tested (uses a form).place b.ends s stands))

  -- ---- any that is asked

  holding_condition : (form : Form) → IsHolding a visible types texts fs f setting form → (b : Behind) (s : State) → Stood s → Tests types texts fs f b.ends s (condition (uses a form) b s)
  holding_condition form (holds_named is) b s stands = unique_condition form is b s stands
  holding_condition form (holds_answer is) b s stands = answer_condition a visible types texts fs f setting form is b s stands

  holding_tested : (form : Form) → IsHolding a visible types texts fs f setting form → (place : Place) (ends : Option Place) (s : State) → Stood s → Tests types texts fs f ends s (not_null place ends (nullable (uses a form)) s)
  holding_tested form (holds_named is) place ends s stands = unique_tested form is place ends s stands
  holding_tested form (holds_answer is) place ends s stands = answer_tested a visible types texts fs f setting form is place ends s stands

  -- ---- what decides: an expression with a value, or a unique_ptr

  pub data IsDeciding (form : Form) : Type 0 where
    by_value : IsWhole a visible types texts fs f setting form → IsDeciding form
    by_unique : IsHolding a visible types texts fs f setting form → IsDeciding form

  pub deciding_condition : (form : Form) → IsDeciding form → is_condition (typed_in form).ty ≡ true → (b : Behind) (s : State) → Stood s → Tests types texts fs f b.ends s (condition (uses a form) b s)
  deciding_condition form (by_value is) c b s stands = is.conditions c b s stands
  deciding_condition form (by_unique is) c b s stands = holding_condition form is b s stands

  -- whether what may be null is
  deciding_null : (form : Form) → IsDeciding form → (t : Ty) → IsTested (typed_in form).ty t → (place : Place) (ends : Option Place) (s : State) → Stood s → Tests types texts fs f ends s (not_null place ends (nullable (uses a form)) s)
  deciding_null form (by_unique is) t tested place ends s stands = holding_tested form is place ends s stands
  deciding_null form (by_value is) t tested place ends s stands =
      let raw = raw_if tested.own tested.nullable (sym (ap (λ (x : ExprType). is_unique (own_type x)) tested.is) ∙ own_no_unique a.program.types (typed_in form) is.kind.kind) in
      not_null_part types texts fs f place ends tested.own (nullable (uses a form)) s raw _ stands.pends (temporary_ends types texts fs f (first_own a) setting.own)
      (tested_pointer a visible types texts fs f setting form tested.own (with_code [] s) tested.is raw (is.pointers tested.own tested.is (raw_location tested.own raw) (with_code [] s) stands))

  -- ---- `!`

  pub deciding_negation : (inner : Form) (e : Typed) → inverted e.place (typed_in inner) ≡ Ok e → IsDeciding inner → IsForm a visible types texts fs f setting (negated inner) e
  deciding_negation inner e h is =
      let g = inverted_as (typed_in inner) e h in
      decided_form a visible types texts fs f setting (negated inner) e ty.Bool (ap (λ (y : Typed). y.ty) g.is) (ap (λ (y : Typed). y.category) g.is) refl refl (λ place b none. absurd (none_some (sym none))) (λ place b none. absurd (none_some (sym none)))
      (λ place b w at s stands. subst (λ (v : State → Gives Tree). Tests types texts fs f b.ends s (v s)) (some_same at) (negation_part types texts fs f b.ends (condition (uses a inner) b) s (deciding_condition inner is g.condition b s stands)))

  -- ---- operators

  -- a unique_ptr is no number, no text and no iterator
  no_number : (t : ExprType) → is_unique_type t ≡ true → is_number t ≡ true → ⊥
  no_number (Of (ty.Unique target)) u n = false≢true n
  no_number (Of _) u n = false≢true u
  no_number NullPointer u n = false≢true u
  no_number TextLiteral u n = false≢true u

  no_sight : (t : ExprType) → is_unique_type t ≡ true → sees t ≡ true → ⊥
  no_sight (Of (ty.Unique target)) u n = false≢true n
  no_sight (Of _) u n = false≢true u
  no_sight NullPointer u n = false≢true u
  no_sight TextLiteral u n = false≢true u

  no_gain : (t : ExprType) → is_unique_type t ≡ true → Gains t → ⊥
  no_gain (Of (ty.Unique target)) u n = false≢true n
  no_gain (Of _) u n = false≢true u
  no_gain NullPointer u n = false≢true u
  no_gain TextLiteral u n = false≢true u

  no_iterators : (l r : ExprType) → (is_unique_type l ≡ true) ⊎ (is_unique_type r ≡ true) → AreIterators l r → ⊥
  no_iterators l r u is = go is.first is.second is.one (elim u [ inl x ↦ inl (subst (λ (t : ExprType). is_unique_type t ≡ true) is.left x) | inr x ↦ inr (subst (λ (t : ExprType). is_unique_type t ≡ true) is.right x) ])
    where
      go : (t w : Ty) → are_iterators_of_one t w ≡ true → (is_unique_type (Of t) ≡ true) ⊎ (is_unique_type (Of w) ≡ true) → ⊥
      go (ty.Iterator item c) (ty.Iterator other d) e (inl x) = false≢true x
      go (ty.Iterator item c) (ty.Iterator other d) e (inr x) = false≢true x
      go (ty.Iterator item c) _ e x = false≢true e
      go _ w e x = false≢true e

  no_step : (t : Ty) → is_iterator t ≡ true → is_unique_type (Of t) ≡ true → ⊥
  no_step (ty.Iterator item c) i u = false≢true u
  no_step _ i u = false≢true i

  module _ (left right : Form) (t : Ty) (l : IsDeciding left) (r : IsDeciding right) (unique : (is_unique_type (typed_in left).ty ≡ true) ⊎ (is_unique_type (typed_in right).ty ≡ true)) where
    abbrev Operated : Row → Place → Uses
    Operated w place = binary_uses w (uses a left) (uses a right) place (Of t) category.Value

    no_computed : (by : Operator) (common : Ty) → IsComputed by common (typed_in left).ty (typed_in right).ty t → ⊥
    no_computed by common fit = elim unique [ inl u ↦ no_number (typed_in left).ty u fit.left | inr u ↦ no_number (typed_in right).ty u fit.right ]

    no_texts : AreTexts (typed_in left).ty (typed_in right).ty t → ⊥
    no_texts fit = elim unique [ inl u ↦ no_gain (typed_in left).ty u fit.left | inr u ↦ no_gain (typed_in right).ty u fit.right ]

    no_move : IsMoved (typed_in left).ty (typed_in right).ty t → ⊥
    no_move fit = elim unique [ inl u ↦ no_step t fit.iterator (subst (λ (x : ExprType). is_unique_type x ≡ true) fit.left u) | inr u ↦ no_number (typed_in right).ty u fit.right ]

    no_comparison : IsCompared (typed_in left).ty (typed_in right).ty t → ⊥
    no_comparison fit = elim fit.operands [
      | inl s ↦ elim unique [ inl u ↦ no_sight (typed_in left).ty u s.0 | inr u ↦ no_sight (typed_in right).ty u s.1 ]
      | inr is ↦ no_iterators (typed_in left).ty (typed_in right).ty unique is
    ]

    row_worth : (w : Row) → Fits w (typed_in left).ty (typed_in right).ty t → is_value t ≡ true
    row_worth (Computed by common) fit = absurd (no_computed by common fit)
    row_worth (Joined join) fit = fit.worth
    row_worth (IsNull side) fit = fit.worth
    row_worth (NotNull side) fit = fit.worth
    row_worth (Compared equal) fit = absurd (no_comparison fit)
    row_worth Concatenated fit = absurd (no_texts fit)
    row_worth (Advanced direction) fit = absurd (no_move fit)

    null_on : (side : Side) (place : Place) (ends : Option Place) (s : State) → Stood s → IsTested (on side (typed_in left).ty (typed_in right).ty) t → Tests types texts fs f ends s (not_null place ends (on side (nullable (uses a left)) (nullable (uses a right))) s)
    null_on Left place ends s stands is = deciding_null left l t is place ends s stands
    null_on Right place ends s stands is = deciding_null right r t is place ends s stands

    row_decides : (w : Row) → Fits w (typed_in left).ty (typed_in right).ty t → (place : Place) (b : Behind) (by : State → Gives Tree) → (Operated w place).decision b ≡ Some by → (s : State) → Stood s → Tests types texts fs f b.ends s (by s)
    row_decides (Joined join) fit place b by at s stands =
        let first = deciding_condition left l fit.left (ending place) s stands in
        subst (λ (v : State → Gives Tree). Tests types texts fs f b.ends s (v s)) (some_same at)
        (joined_part types texts fs f join b.ends place b.token (condition (uses a left) (ending place)) (condition (uses a right) (ending b.token)) s first
        (deciding_condition right r fit.right (ending b.token) (condition (uses a left) (ending place) s).state (stands_later a visible s (condition (uses a left) (ending place) s).state first.grown stands)))
    row_decides (IsNull side) fit place b by at s stands =
        subst (λ (v : State → Gives Tree). Tests types texts fs f b.ends s (v s)) (some_same at)
        (negation_part types texts fs f b.ends (not_null place b.ends (on side (nullable (uses a left)) (nullable (uses a right)))) s (null_on side place b.ends s stands fit))
    row_decides (NotNull side) fit place b by at s stands = subst (λ (v : State → Gives Tree). Tests types texts fs f b.ends s (v s)) (some_same at) (null_on side place b.ends s stands fit)
    row_decides (Computed by common) fit place b w at s stands = absurd (no_computed by common fit)
    row_decides Concatenated fit place b w at s stands = absurd (no_texts fit)
    row_decides (Advanced direction) fit place b w at s stands = absurd (no_move fit)
    row_decides (Compared equal) fit place b w at s stands = absurd (no_comparison fit)

    -- nothing is computed
    row_computed : (w : Row) → Fits w (typed_in left).ty (typed_in right).ty t → (place : Place) (b : Behind) → (Operated w place).decision b ≡ None → ⊥
    row_computed (Joined join) fit place b none = none_some (sym none)
    row_computed (IsNull side) fit place b none = none_some (sym none)
    row_computed (NotNull side) fit place b none = none_some (sym none)
    row_computed (Computed by common) fit place b none = no_computed by common fit
    row_computed Concatenated fit place b none = no_texts fit
    row_computed (Advanced direction) fit place b none = no_move fit
    row_computed (Compared equal) fit place b none = no_comparison fit

  unique_form : (o : BinaryOperator) (left right : Form) (e : Typed) → IsCombined o (typed_in left) (typed_in right) e → IsDeciding left → IsDeciding right → (is_unique_type (typed_in left).ty ≡ true) ⊎ (is_unique_type (typed_in right).ty ≡ true)
      → IsForm a visible types texts fs f setting (binary o left right) e
  unique_form o left right e c l r unique =
      decided_form a visible types texts fs f setting (binary o left right) e c.ty c.is.0 c.is.1 (row_worth left right c.ty l r unique (row_between o left right) fit) refl
      (λ place b none into s wanted stands. absurd (row_computed left right c.ty l r unique (row_between o left right) fit place b none))
      (λ place b none r' s. absurd (row_computed left right c.ty l r unique (row_between o left right) fit place b none))
      (row_decides left right c.ty l r unique (row_between o left right) fit)
    where
      fit : Fits (row_between o left right) (typed_in left).ty (typed_in right).ty c.ty
      fit = row_fits_between o left right c.ty c.answer

  pub deciding_form : (o : BinaryOperator) (left right : Form) (e : Typed) → IsCombined o (typed_in left) (typed_in right) e → IsDeciding left → IsDeciding right → IsForm a visible types texts fs f setting (binary o left right) e
  deciding_form o left right e c (by_value l) (by_value r) = binary_form a visible types texts fs f setting o left right e c l r
  deciding_form o left right e c (by_unique l) r = unique_form o left right e c (by_unique l) r (inl (holding_unique a visible types texts fs f setting left l))
  deciding_form o left right e c (by_value l) (by_unique r) = unique_form o left right e c (by_value l) (by_unique r) (inr (holding_unique a visible types texts fs f setting right r))
