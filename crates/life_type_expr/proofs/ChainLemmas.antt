-- Operands one after the other, as a loop reads them.
use Rattle.std.proofs.Common.{◌≡◌, ◌==◌, ℕ, ◌+◌, ◌≤◌, ◌<◌, Bool, true, List, [], ◌∷◌, drop, get_or, length, map, Result, Ok, Err, Vec, vec_len, refl, sym, ap, subst, ◌∙◌}
use Rattle.std.proofs.lemmas.Bool.{eqb-true}
use Rattle.std.proofs.lemmas.List.{at_drop_all, at_drop_more, nil_from_length}
use Rattle.std.specs.declared.alloc.Global.{Global}
use Rattle.life_types.specs.Types.{Types}
use Rattle.life_typed.specs.TypedForm.{Typed, typed_view}
use Rattle.life_typed.specs.declared.typed_expr.TypedExpr.{TypedExpr}
use Rattle.life_names.specs.Checked.{Checked, ◌>>=◌, Fails, Gives}
use Rattle.life_names.specs.Environment.{Scope}
use Rattle.life_type_expr.specs.Expressions.{PartMeaning, chain, chained}
use Rattle.life_type_expr.specs.Lists.{Meaning}
use Rattle.life_names.specs.declared.fault.IllFault.{IllFault}
use Rattle.life_names.specs.declared.fault.IllFault.TheVariants as faults

-- what fails first fails altogether
pub first_fails : (first : Meaning) (more : List PartMeaning) (scope : Scope) (types : Types) (e : IllFault) (total : Checked Typed)
    → total ≡ chain first more scope types → Fails e (first scope types) → Fails e total
first_fails first more scope types faults.NoMemory total is f = tt
first_fails first more scope types (faults.Ill kind place) total is f = is ∙ ap (λ (c : Checked Typed). c >>= chained more scope) f

-- no operand follows
none_follows : (scope : Scope) (c : Checked Typed) → c ≡ c >>= chained [] scope
none_follows scope (Ok x) = refl
none_follows scope (Err e) = refl

module _ {A : Type 0} (meaning : A → PartMeaning) (scope : Scope) where
  -- an operand that stands alone
  pub alone : (first : Meaning) (more : Vec A Global) (empty : Bool) (types after : Types) (result : Result TypedExpr IllFault) (total : Checked Typed)
      → empty ≡ (vec_len more == 0) → empty ≡ true → total ≡ chain first (map meaning more.items) scope types
      → Gives typed_view after result (first scope types) → Gives typed_view after result total
  alone first more empty types after result total tells holds is =
      let none = nil_from_length more.items (sym more.ok.0 ∙ eqb-true (vec_len more) 0 (sym tells ∙ holds)) in
      subst (Gives typed_view after result)
      (none_follows scope (first scope types) ∙ ap (λ (ps : List A). chain first (map meaning ps) scope types) (sym none) ∙ sym is)

  -- what fails behind what was read fails altogether
  pub fails_with : (items : List A) (item : A) (x : Typed × Types) (e : IllFault) (total : Checked Typed)
      → chained (map meaning (item ∷ items)) scope x ≡ total → Fails e (meaning item x.0 scope x.1) → Fails e total
  fails_with items item x faults.NoMemory total so_far f = tt
  fails_with items item x (faults.Ill kind place) total so_far f = sym so_far ∙ ap (λ (c : Checked Typed). c >>= chained (map meaning items) scope) f

  -- one more is read
  pub goes_with : (items : List A) (item : A) (x y : Typed × Types) (total : Checked Typed)
      → chained (map meaning (item ∷ items)) scope x ≡ total → meaning item x.0 scope x.1 ≡ Ok y → chained (map meaning items) scope y ≡ total
  goes_with items item x y total so_far e = sym (ap (λ (c : Checked Typed). c >>= chained (map meaning items) scope) e) ∙ so_far

  -- the item of this turn is the next
  next_item : (items : List A) (i : ℕ) (item : A) (x : Typed × Types) (total : Checked Typed) → i < length items → item ≡ get_or items i item
      → chained (map meaning (drop i items)) scope x ≡ total → chained (map meaning (item ∷ drop (i + 1) items)) scope x ≡ total
  next_item items i item x total more is so_far =
      ap (λ (p : A). chained (map meaning (p ∷ drop (i + 1) items)) scope x) is
      ∙ sym (at_drop_more (λ (ps : List A). chained (map meaning ps) scope x) items i item more) ∙ so_far

  -- .. and fails
  pub turn_fails : (items : List A) (i : ℕ) (item : A) (x : Typed × Types) (e : IllFault) (total : Checked Typed) → i < length items → item ≡ get_or items i item
      → chained (map meaning (drop i items)) scope x ≡ total → Fails e (meaning item x.0 scope x.1) → Fails e total
  turn_fails items i item x e total more is so_far f = fails_with (drop (i + 1) items) item x e total (next_item items i item x total more is so_far) f

  -- .. and is read
  pub turn_goes : (items : List A) (i : ℕ) (item : A) (x y : Typed × Types) (total : Checked Typed) → i < length items → item ≡ get_or items i item
      → chained (map meaning (drop i items)) scope x ≡ total → meaning item x.0 scope x.1 ≡ Ok y → chained (map meaning (drop (i + 1) items)) scope y ≡ total
  turn_goes items i item x y total more is so_far e = goes_with (drop (i + 1) items) item x y total (next_item items i item x total more is so_far) e

  -- what the whole list comes to
  pub all_of : (first : Meaning) (items all : List A) (types : Types) (x0 : Typed × Types) (total : Checked Typed) → items ≡ all → first scope types ≡ Ok x0
      → total ≡ chain first (map meaning all) scope types → chained (map meaning items) scope x0 ≡ total
  all_of first items all types x0 total same start is =
      ap (λ (ps : List A). chained (map meaning ps) scope x0) same ∙ sym (ap (λ (c : Checked Typed). c >>= chained (map meaning all) scope) start) ∙ sym is

  -- there is no other
  pub ended : (first : Meaning) (items all : List A) (i : ℕ) (types : Types) (x0 x : Typed × Types) (total : Checked Typed)
      → length items ≤ i → chained (map meaning (drop i items)) scope x ≡ chained (map meaning items) scope x0 → items ≡ all
      → first scope types ≡ Ok x0 → total ≡ chain first (map meaning all) scope types → total ≡ Ok x
  ended first items all i types x0 x total past rest same start is =
      is ∙ ap (λ (c : Checked Typed). c >>= chained (map meaning all) scope) start
      ∙ ap (λ (ps : List A). chained (map meaning ps) scope x0) (sym same) ∙ sym rest
      ∙ at_drop_all (λ (ps : List A). chained (map meaning ps) scope x) items i past
