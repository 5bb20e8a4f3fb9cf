-- The operands of member functions as the code has them, the first and the second, and what they are used for.
use Rattle.std.proofs.Common.{◌≡◌, ◌≤◌, ℕ, true, List, [], ◌∷◌, Option, None, Some, get_or, length, sym, ap, ◌∙◌, refl, arith}
use Rattle.life_types.specs.declared.place.Place.{Place}
use Rattle.life_types.specs.declared.ty.Ty.{Ty}
use Rattle.life_types.specs.declared.ty.Ty.TheVariants as ty
use Rattle.life_typed.specs.Delimiters.{DelimitersForm, behind_first, behind_others}
use Rattle.life_typed.specs.TypedForm.{Form, forms, nothing, typed_view, typed_views, whole}
use Rattle.life_typed.specs.declared.typed_expr.TypedExpr.{TypedExpr}
use Rattle.life_core.specs.Operands.{Location, Operand}
use Rattle.life_core.specs.Step.{Changes, Cut, Erase, PushBack, Reserve}
use Rattle.life_writer.specs.Around.{Around, own_type}
use Rattle.life_writer.specs.Chains.{cut_by, has_first}
use Rattle.life_writer.specs.ExpressionForms.{uses, uses_if}
use Rattle.life_writer.specs.Giving.{given_over}
use Rattle.life_writer.specs.MethodForms.{count_if, erased, pushed_back, reserved, size_if}
use Rattle.life_writer.specs.PartUses.{expressions_uses, part_uses}
use Rattle.life_writer.specs.Parts.{first_form, part_form, part_view, second_form}
use Rattle.life_writer.specs.Pointers.{By}
use Rattle.life_writer.specs.Uses.{Uses, own}
use Rattle.life_writer.specs.Using.{operand, pointer, value}
use Rattle.life_writer.specs.Writing.{State, Gives, gives, ◌>>◌, emit, mapped}
use Rattle.life_writer.specs.declared.parts.Part.{Part}
use Rattle.life_writer.proofs.Handing.{first_token, second_token}
use Rattle.life_writer.proofs.Weights.{weight}

-- ---- whether there is one

pub some_first : (es : List TypedExpr) → 1 ≤ length es → true ≡ has_first (forms (typed_views es))
some_first [] more = absurd (omega arith)
some_first (e ∷ es) more = refl

-- ---- they weigh no more than all

pub first_lighter : (es : List TypedExpr) (o : Option Part) → part_form o ≡ first_form es → weight (part_form o) ≤ weight (forms (typed_views es))
first_lighter [] o is = let same : weight (part_form o) ≡ 0 = ap weight is in omega arith
first_lighter (e ∷ es) o is = let same : weight (part_form o) ≡ weight (whole (typed_view e)) = ap weight is in omega arith

pub second_lighter : (es : List TypedExpr) (o : Option Part) → part_form o ≡ second_form es → weight (part_form o) ≤ weight (forms (typed_views es))
second_lighter [] o is = let same : weight (part_form o) ≡ 0 = ap weight is in omega arith
second_lighter (e ∷ es) o is = let others = first_lighter es o is in omega arith

-- ---- their uses

abbrev others_uses : Around → List TypedExpr → List Uses
others_uses a [] = []
others_uses a (e ∷ es) = expressions_uses a es

first_there : (a : Around) (es : List TypedExpr) (p : Part) → whole (part_view p) ≡ first_form es → expressions_uses a es ≡ part_uses a (Some p) ∷ others_uses a es
first_there a [] p is = absurd (let both : whole (part_view p) ≡ nothing = is in cc)
first_there a (e ∷ es) p is = ap (λ (f : Form). uses a f ∷ expressions_uses a es) (sym is)

pub first_uses : (a : Around) (es : List TypedExpr) (o : Option Part) (p : Part) → part_form o ≡ first_form es → o ≡ Some p → expressions_uses a es ≡ part_uses a (Some p) ∷ others_uses a es
first_uses a es o p is there = first_there a es p (sym (ap part_form there) ∙ is)

second_uses : (a : Around) (es : List TypedExpr) (d : DelimitersForm) (s : State) → count_if (others_uses a es) d s ≡ size_if (uses_if a (second_form es)) (behind_first d) s
second_uses a [] d s = refl
second_uses a (e ∷ []) d s = refl
second_uses a (e ∷ x ∷ more) d s = refl

-- ---- what is done with them

module _ (a : Around) (es : List TypedExpr) (o : Option Part) (p : Part) (is : part_form o ≡ first_form es) (there : o ≡ Some p) where
  pub cut_first : (d : DelimitersForm) (q : Location) (b0 b1 : Place) (other : Option Part) (s s1 now : State) (i : ℕ) (n : Option ℕ)
      → b0 ≡ get_or d.commas 0 d.closing → value (part_uses a (Some p)) b0 ty.Size None s ≡ gives i s1
      → b1 ≡ get_or d.commas 1 d.closing → part_form other ≡ second_form es → size_if (uses_if a (part_form other)) b1 s1 ≡ gives n now
      → cut_by q (expressions_uses a es) d s ≡ gives (By (λ r. Cut r q i n)) now
  cut_first d q b0 b1 other s s1 now i n token0 index token1 second count =
      let x = part_uses a (Some p) in let others = others_uses a es in
      ap (λ (us : List Uses). cut_by q us d s) (first_uses a es o p is there)
      ∙ ap (λ (b : Place). value x b ty.Size None s >> λ i s. mapped (λ n. By (λ r. Cut r q i n)) (count_if others (behind_others d) s)) (first_token d b0 token0)
      ∙ ap (λ (w : Gives ℕ). mapped (λ n. By (λ r. Cut r q w.given n)) (count_if others (behind_others d) w.state)) index
      ∙ ap (mapped (λ n. By (λ r. Cut r q i n)))
      (second_uses a es (behind_others d) s1
      ∙ ap (λ (f : Form). size_if (uses_if a f) (behind_first (behind_others d)) s1) (sym second)
      ∙ ap (λ (b : Place). size_if (uses_if a (part_form other)) b s1) (second_token d b1 token1)
      ∙ count)

module _ (a : Around) (e : Uses) (es : List TypedExpr) (o : Option Part) (p : Part) (is : part_form o ≡ first_form es) (there : o ≡ Some p) where
  pub erased_first : (t : Ty) (s s1 now : State) (owner : Operand) (l : Location) → t ≡ own_type p.ty → operand e s ≡ gives owner s1 → pointer (part_uses a (Some p)) t s1 ≡ gives l now
      → erased e (expressions_uses a es) s ≡ gives (By (λ q. Changes owner (Erase l q))) now
  erased_first t s s1 now owner l own_is first second =
      let x = part_uses a (Some p) in
      ap (λ (us : List Uses). erased e us s) (first_uses a es o p is there)
      ∙ ap (λ (w : Gives Operand). mapped (λ l. By (λ q. Changes w.given (Erase l q))) (pointer x (own x) w.state)) first
      ∙ ap (λ (u : Ty). mapped (λ l. By (λ q. Changes owner (Erase l q))) (pointer x u s1)) (sym own_is)
      ∙ ap (mapped (λ l. By (λ q. Changes owner (Erase l q)))) second

  pub pushed_first : (d : DelimitersForm) (t : Ty) (b : Place) (place : Place) (s s1 s2 now : State) (to : Operand) (x : ℕ) (u : Ty)
      → u ≡ t → operand e s ≡ gives to s1 → b ≡ get_or d.commas 0 d.closing → given_over (part_uses a (Some p)) u b s1 ≡ gives x s2 → now ≡ emit place (Changes to (PushBack x)) s2
      → now ≡ pushed_back e t (expressions_uses a es) d place s
  pushed_first d t b place s s1 s2 now to x u same first token second written =
      let y = part_uses a (Some p) in
      written
      ∙ sym (ap (λ (us : List Uses). pushed_back e t us d place s) (first_uses a es o p is there)
      ∙ ap (λ (w : Gives Operand). given_over y t (behind_first d) w.state >> λ n s. emit place (Changes w.given (PushBack n)) s) first
      ∙ ap (λ (v : Ty). given_over y v (behind_first d) s1 >> λ n s. emit place (Changes to (PushBack n)) s) (sym same)
      ∙ ap (λ (c : Place). given_over y u c s1 >> λ n s. emit place (Changes to (PushBack n)) s) (first_token d b token)
      ∙ ap (λ (w : Gives ℕ). emit place (Changes to (PushBack w.given)) w.state) second)

  pub reserved_first : (d : DelimitersForm) (b : Place) (place : Place) (s s1 s2 now : State) (to : Operand) (n : ℕ)
      → operand e s ≡ gives to s1 → b ≡ get_or d.commas 0 d.closing → value (part_uses a (Some p)) b ty.Size None s1 ≡ gives n s2 → now ≡ emit place (Changes to (Reserve n)) s2
      → now ≡ reserved e (expressions_uses a es) d place s
  reserved_first d b place s s1 s2 now to n first token second written =
      let y = part_uses a (Some p) in
      written
      ∙ sym (ap (λ (us : List Uses). reserved e us d place s) (first_uses a es o p is there)
      ∙ ap (λ (w : Gives Operand). value y (behind_first d) ty.Size None w.state >> λ n s. emit place (Changes w.given (Reserve n)) s) first
      ∙ ap (λ (c : Place). value y c ty.Size None s1 >> λ n s. emit place (Changes to (Reserve n)) s) (first_token d b token)
      ∙ ap (λ (w : Gives ℕ). emit place (Changes to (Reserve w.given)) w.state) second)
