-- What the operands of an operator that takes them are, by kinds, and what it answers.
use Rattle.std.proofs.Common.{◌≡◌, ◌⊎◌, inl, inr, Bool, true, false, ◌&&◌, ◌||◌, cond, Some, refl, sym, ap, subst}
use Rattle.std.proofs.lemmas.Bool.{and_parts, false≢true, or_cases}
use Rattle.life_types.specs.TypeTests.{is_iterator, is_text, is_value}
use Rattle.life_types.specs.declared.ty.Ty.{Ty}
use Rattle.life_types.specs.declared.ty.Ty.TheVariants as ty
use Rattle.life_typed.specs.Operators.{added, are_equated, are_iterators_of_one, arithmetic, concatenated, equated, is_condition, is_joined, is_nullable, is_text_like, joined_conditions, moved, multiplied, ordered, promoted, subtracted}
use Rattle.life_typed.specs.declared.typed_expr.ExprType.{ExprType}
use Rattle.life_typed.specs.declared.typed_expr.ExprType.TheVariants.{NullPointer, Of, TextLiteral}
use Rattle.life_elab_laws.proofs.TypeKinds.{is_walker_type}
use Rattle.life_elab_laws.proofs.TypedKinds.{given_true, none_some, promoted_value}
use Rattle.life_elab_laws.proofs.TypedOperands.{HasValue, IsAsked, IsDeciding, asks_owner, asks_value, decides_unique, decides_value, value_has}

-- ---- kinds of operands

pub null_has : HasValue NullPointer
null_has = record { plain = refl; some = refl }

pub literal_has : HasValue TextLiteral
literal_has = record { plain = refl; some = refl }

-- a condition is a number, a raw pointer or a unique_ptr
pub condition_decides : (t : ExprType) → is_condition t ≡ true → IsDeciding t
condition_decides (Of ty.Bool) h = decides_value (record { plain = refl; some = refl })
condition_decides (Of ty.Char) h = decides_value (record { plain = refl; some = refl })
condition_decides (Of ty.Int) h = decides_value (record { plain = refl; some = refl })
condition_decides (Of ty.Long) h = decides_value (record { plain = refl; some = refl })
condition_decides (Of ty.Size) h = decides_value (record { plain = refl; some = refl })
condition_decides (Of (ty.Raw target constant)) h = decides_value (record { plain = refl; some = refl })
condition_decides (Of (ty.Unique target)) h = decides_unique refl
condition_decides (Of _) h = absurd (false≢true h)
condition_decides NullPointer h = absurd (false≢true h)
condition_decides TextLiteral h = absurd (false≢true h)

nullable_decides : (t : Ty) → is_nullable t ≡ true → IsDeciding (Of t)
nullable_decides (ty.Raw target constant) h = decides_value (record { plain = refl; some = refl })
nullable_decides (ty.Unique target) h = decides_unique refl
nullable_decides _ h = absurd (false≢true h)

-- a string is an owner, and a view points
text_asks : (t : Ty) → is_text_like t ≡ true → IsAsked (Of t)
text_asks ty.Text h = asks_owner refl
text_asks ty.View h = asks_value (record { plain = refl; some = refl })
text_asks _ h = absurd (false≢true h)

joined_asks : (t : Ty) → is_joined t ≡ true → IsAsked (Of t)
joined_asks ty.Text h = asks_owner refl
joined_asks ty.Char h = asks_value (record { plain = refl; some = refl })
joined_asks _ h = absurd (false≢true h)

only_text : (t : Ty) → is_text t ≡ true → IsAsked (Of t)
only_text ty.Text h = asks_owner refl
only_text _ h = absurd (false≢true h)

iterator_walks : (t : Ty) → is_iterator t ≡ true → is_walker_type (Of t) ≡ true
iterator_walks (ty.Iterator item constant) h = refl
iterator_walks _ h = absurd (false≢true h)

both_walk : (a b : Ty) → are_iterators_of_one a b ≡ true → (is_walker_type (Of a) ≡ true) × (is_walker_type (Of b) ≡ true)
both_walk (ty.Iterator a m) (ty.Iterator b n) h = (refl, refl)
both_walk (ty.Iterator a m) _ h = absurd (false≢true h)
both_walk _ b h = absurd (false≢true h)

-- ---- two numbers

pub record AreValues (a b : ExprType) (t : Ty) : Type 0 where
  pub left : HasValue a
  pub right : HasValue b
  pub value : is_value t ≡ true

values_of : (a b u t : Ty) → is_value u ≡ true → (is_value a && is_value b) ≡ true → u ≡ t → AreValues (Of a) (Of b) t
values_of a b u t v both is =
    let parts = and_parts (is_value a) (is_value b) both in record { left = value_has a parts.0; right = value_has b parts.1; value = subst (λ (x : Ty). is_value x ≡ true) is v }

counted : (a b t : Ty) → arithmetic a b ≡ Some t → AreValues (Of a) (Of b) t
counted a b t e = let h = given_true (is_value a && is_value b) (promoted a b) t e in values_of a b (promoted a b) t (promoted_value a b) h.0 h.1

pub ordered_values : (a b : ExprType) (t : Ty) → ordered a b ≡ Some t → AreValues a b t
ordered_values (Of a) (Of b) t e = let h = given_true (is_value a && is_value b) ty.Bool t e in values_of a b ty.Bool t refl h.0 h.1
ordered_values (Of a) NullPointer t e = absurd (none_some e)
ordered_values (Of a) TextLiteral t e = absurd (none_some e)
ordered_values NullPointer b t e = absurd (none_some e)
ordered_values TextLiteral b t e = absurd (none_some e)

pub multiplied_values : (a b : ExprType) (t : Ty) → multiplied a b ≡ Some t → AreValues a b t
multiplied_values (Of a) (Of b) t e = counted a b t e
multiplied_values (Of a) NullPointer t e = absurd (none_some e)
multiplied_values (Of a) TextLiteral t e = absurd (none_some e)
multiplied_values NullPointer b t e = absurd (none_some e)
multiplied_values TextLiteral b t e = absurd (none_some e)

-- ---- two conditions

pub record AreConditions (a b : ExprType) (t : Ty) : Type 0 where
  pub left : IsDeciding a
  pub right : IsDeciding b
  pub value : is_value t ≡ true

bool_value : (t : Ty) → ty.Bool ≡ t → is_value t ≡ true
bool_value t e = subst (λ (u : Ty). is_value u ≡ true) e refl

pub joined_decide : (a b : ExprType) (t : Ty) → joined_conditions a b ≡ Some t → AreConditions a b t
joined_decide a b t e =
    let h = given_true (is_condition a && is_condition b) ty.Bool t e in
    let parts = and_parts (is_condition a) (is_condition b) h.0 in
    record { left = condition_decides a parts.0; right = condition_decides b parts.1; value = bool_value t h.1 }

-- ---- whether two are equal

pub data AreEquated (a b : ExprType) : Type 0 where
  equal_values : HasValue a → HasValue b → AreEquated a b
  equal_texts : IsAsked a → IsAsked b → AreEquated a b
  equal_walkers : is_walker_type a ≡ true → is_walker_type b ≡ true → AreEquated a b
  equal_nulls : IsDeciding a → IsDeciding b → AreEquated a b

pub record IsEquation (a b : ExprType) (t : Ty) : Type 0 where
  pub are : AreEquated a b
  pub value : is_value t ≡ true

pub equated_as : (a b : ExprType) (t : Ty) → equated a b ≡ Some t → IsEquation a b t
equated_as (Of a) (Of b) t e =
    let h = given_true (are_equated a b) ty.Bool t e in
    record { are = go (or_cases ((is_value a && is_value b) || (is_text_like a && is_text_like b)) (are_iterators_of_one a b) h.0); value = bool_value t h.1 }
  where
    plain : ((is_value a && is_value b) ≡ true) ⊎ ((is_text_like a && is_text_like b) ≡ true) → AreEquated (Of a) (Of b)
    plain (inl both) = let parts = and_parts (is_value a) (is_value b) both in equal_values (value_has a parts.0) (value_has b parts.1)
    plain (inr both) = let parts = and_parts (is_text_like a) (is_text_like b) both in equal_texts (text_asks a parts.0) (text_asks b parts.1)

    go : (((is_value a && is_value b) || (is_text_like a && is_text_like b)) ≡ true) ⊎ (are_iterators_of_one a b ≡ true) → AreEquated (Of a) (Of b)
    go (inl x) = plain (or_cases (is_value a && is_value b) (is_text_like a && is_text_like b) x)
    go (inr x) = let both = both_walk a b x in equal_walkers both.0 both.1
equated_as (Of a) TextLiteral t e = let h = given_true (is_text_like a) ty.Bool t e in record { are = equal_texts (text_asks a h.0) (asks_value literal_has); value = bool_value t h.1 }
equated_as TextLiteral (Of b) t e = let h = given_true (is_text_like b) ty.Bool t e in record { are = equal_texts (asks_value literal_has) (text_asks b h.0); value = bool_value t h.1 }
equated_as (Of a) NullPointer t e = let h = given_true (is_nullable a) ty.Bool t e in record { are = equal_nulls (nullable_decides a h.0) (decides_value null_has); value = bool_value t h.1 }
equated_as NullPointer (Of b) t e = let h = given_true (is_nullable b) ty.Bool t e in record { are = equal_nulls (decides_value null_has) (nullable_decides b h.0); value = bool_value t h.1 }
equated_as NullPointer NullPointer t e = absurd (none_some e)
equated_as NullPointer TextLiteral t e = absurd (none_some e)
equated_as TextLiteral NullPointer t e = absurd (none_some e)
equated_as TextLiteral TextLiteral t e = absurd (none_some e)

-- ---- sums

pub data AreAdded (a b : ExprType) (t : Ty) : Type 0 where
  adds_values : AreValues a b t → AreAdded a b t
  adds_texts : IsAsked a → IsAsked b → t ≡ ty.Text → AreAdded a b t
  -- an iterator is moved
  adds_to : is_walker_type a ≡ true → HasValue b → a ≡ Of t → AreAdded a b t

advanced : (a b t : Ty) → is_iterator a ≡ true → moved a b ≡ Some t → AreAdded (Of a) (Of b) t
advanced a b t i e = let h = given_true (is_value b) a t e in adds_to (iterator_walks a i) (value_has b h.0) (ap Of h.1)

pub added_as : (a b : ExprType) (t : Ty) → added a b ≡ Some t → AreAdded a b t
added_as (Of a) (Of b) t e = go (is_text a || is_text b) (is_iterator a) refl e
  where
    go : (x i : Bool) → is_iterator a ≡ i → cond x (concatenated a b) (cond i (moved a b) (arithmetic a b)) ≡ Some t → AreAdded (Of a) (Of b) t
    go true i is e =
        let h = given_true (is_joined a && is_joined b) ty.Text t e in
        let parts = and_parts (is_joined a) (is_joined b) h.0 in
        adds_texts (joined_asks a parts.0) (joined_asks b parts.1) (sym h.1)
    go false true is e = advanced a b t is e
    go false false is e = adds_values (counted a b t e)
added_as (Of a) TextLiteral t e = let h = given_true (is_text a) ty.Text t e in adds_texts (only_text a h.0) (asks_value literal_has) (sym h.1)
added_as TextLiteral (Of b) t e = let h = given_true (is_text b) ty.Text t e in adds_texts (asks_value literal_has) (only_text b h.0) (sym h.1)
added_as (Of a) NullPointer t e = absurd (none_some e)
added_as NullPointer b t e = absurd (none_some e)
added_as TextLiteral NullPointer t e = absurd (none_some e)
added_as TextLiteral TextLiteral t e = absurd (none_some e)

pub subtracted_as : (a b : ExprType) (t : Ty) → subtracted a b ≡ Some t → AreAdded a b t
subtracted_as (Of a) (Of b) t e = go (is_iterator a) refl e
  where
    go : (i : Bool) → is_iterator a ≡ i → cond i (moved a b) (arithmetic a b) ≡ Some t → AreAdded (Of a) (Of b) t
    go true is e = advanced a b t is e
    go false is e = adds_values (counted a b t e)
subtracted_as (Of a) NullPointer t e = absurd (none_some e)
subtracted_as (Of a) TextLiteral t e = absurd (none_some e)
subtracted_as NullPointer b t e = absurd (none_some e)
subtracted_as TextLiteral b t e = absurd (none_some e)
