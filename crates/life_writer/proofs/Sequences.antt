-- Texts that are seen, compared and joined; and what calls give.
use Rattle.std.proofs.Common.{◌≡◌, ℕ, Bool, List, Option, None, refl, sym, ap, ◌∙◌}
use Rattle.life_types.specs.declared.place.Place.{Place}
use Rattle.life_types.specs.declared.ty.Ty.{Ty}
use Rattle.life_types.specs.declared.ty.Ty.TheVariants as ty
use Rattle.life_types.specs.declared.ty.TyId.{TyId}
use Rattle.life_typed.specs.Delimiters.{DelimitersForm}
use Rattle.life_typed.specs.TypedForm.{Form}
use Rattle.life_typed.specs.declared.typed_expr.Category.{Category}
use Rattle.life_typed.specs.declared.typed_expr.ExprType.{ExprType}
use Rattle.life_core.specs.Operands.{Argument, Location, Operand}
use Rattle.life_core.specs.Step.{Same}
use Rattle.life_core.specs.declared.instr.Form.TheVariants.{Plain}
use Rattle.life_writer.specs.Around.{Around, parameter_types}
use Rattle.life_writer.specs.Calls.{called}
use Rattle.life_writer.specs.Characters.{InRegister, InString, InView, Seen, concatenated, seen, seen_by, viewed}
use Rattle.life_writer.specs.ExpressionForms.{all_uses, called_with, compared_with}
use Rattle.life_writer.specs.Giving.{arguments}
use Rattle.life_writer.specs.OwnerForms.{concatenation_uses}
use Rattle.life_writer.specs.Registers.{computed, target}
use Rattle.life_writer.specs.Uses.{Uses, lived, own}
use Rattle.life_writer.specs.Using.{operand, pointer, value}
use Rattle.life_writer.specs.Writing.{State, Gives, gives, ◌>>◌, emit, mapped}

-- ---- calls

pub called_given : (a : Around) (f : ℕ) (es : Form) (d : DelimitersForm) (types : List TyId) (xs : List Argument) (s now : State) → types ≡ parameter_types a f
    → arguments a (all_uses a es) d types s ≡ gives xs now → called_with a f (all_uses a es) d s ≡ gives (called f xs) now
called_given a f es d types xs s now as_declared given =
    ap (λ (ts : List TyId). mapped (called f) (arguments a (all_uses a es) d ts s)) (sym as_declared) ∙ ap (mapped (called f)) given

-- ---- characters

pub seen_string : (e : Uses) (t : Ty) (place : Place) (s now : State) (o : Operand) → t ≡ own e → t ≡ ty.Text → place ≡ e.place → operand e s ≡ gives o now → seen e s ≡ gives (InString place o) now
seen_string e t place s now o own_is is place_is given =
    ap (λ (u : Ty). seen_by u e s) (sym own_is ∙ is) ∙ ap (mapped (InString e.place)) given ∙ ap (λ (p : Place). gives (InString p o) now) (sym place_is)

pub seen_character : (e : Uses) (t : Ty) (place : Place) (s now : State) (r : ℕ) → t ≡ own e → t ≡ ty.Char → place ≡ e.place → value e place ty.Char None s ≡ gives r now → seen e s ≡ gives (InRegister r) now
seen_character e t place s now r own_is is place_is given =
    ap (λ (u : Ty). seen_by u e s) (sym own_is ∙ is) ∙ ap (λ (p : Place). mapped InRegister (value e p ty.Char None s)) (sym place_is) ∙ ap (mapped InRegister) given

seen_else : (t : Ty) (e : Uses) (s : State) → (t ≡ ty.Text → ⊥) → (t ≡ ty.Char → ⊥) → seen_by t e s ≡ mapped InView (pointer e ty.View s)
seen_else ty.Void e s no_text no_char = refl
seen_else ty.Bool e s no_text no_char = refl
seen_else ty.Char e s no_text no_char = absurd (no_char refl)
seen_else ty.Int e s no_text no_char = refl
seen_else ty.Long e s no_text no_char = refl
seen_else ty.Size e s no_text no_char = refl
seen_else ty.Text e s no_text no_char = absurd (no_text refl)
seen_else ty.View e s no_text no_char = refl
seen_else (ty.Vector x) e s no_text no_char = refl
seen_else (ty.Unique x) e s no_text no_char = refl
seen_else (ty.Raw x y) e s no_text no_char = refl
seen_else (ty.Reference x y) e s no_text no_char = refl
seen_else (ty.Iterator x y) e s no_text no_char = refl
seen_else (ty.Span x y) e s no_text no_char = refl
seen_else (ty.Struct n) e s no_text no_char = refl

pub seen_view : (e : Uses) (t : Ty) (s now : State) (l : Location) → t ≡ own e → (t ≡ ty.Text → ⊥) → (t ≡ ty.Char → ⊥) → pointer e ty.View s ≡ gives l now → seen e s ≡ gives (InView l) now
seen_view e t s now l own_is no_text no_char given = ap (λ (u : Ty). seen_by u e s) (sym own_is) ∙ seen_else t e s no_text no_char ∙ ap (mapped InView) given

-- ---- two texts

pub compares : (equal : Bool) (left right : Uses) (place : Place) (t u : Ty) (into : Option ℕ) (s s1 s2 s3 s4 s5 now : State) (x y : Seen) (p q : Location) (r : ℕ)
    → seen left s ≡ gives x s1 → seen right s1 ≡ gives y s2 → viewed x s2 ≡ gives p s3 → viewed y s3 ≡ gives q s4 → u ≡ t → target place into u s4 ≡ gives r s5 → now ≡ emit place (Same r p q equal) s5
    → compared_with equal left right place t into s ≡ gives r now
compares equal left right place t u into s s1 s2 s3 s4 s5 now x y p q r first second third fourth type_is goal written =
    ap (λ (w : Gives Seen). seen right w.state >> λ y s. viewed w.given s >> λ p s. viewed y s >> λ q s. computed into t place (λ r. Same r p q equal) s) first
    ∙ ap (λ (w : Gives Seen). viewed x w.state >> λ p s. viewed w.given s >> λ q s. computed into t place (λ r. Same r p q equal) s) second
    ∙ ap (λ (w : Gives Location). viewed y w.state >> λ q s. computed into t place (λ r. Same r w.given q equal) s) third
    ∙ ap (λ (w : Gives Location). computed into t place (λ r. Same r p w.given equal) w.state) fourth
    ∙ ap (λ (v : Ty). computed into v place (λ r. Same r p q equal) s4) (sym type_is)
    ∙ ap (λ (w : Gives ℕ). gives w.given (emit place (Same w.given p q equal) w.state)) goal
    ∙ ap (λ (z : State). gives r z) (sym written)

pub concatenates : (left right : Uses) (place : Place) (t : ExprType) (c : Category) (s s1 now : State) (x y : Seen) → seen left s ≡ gives x s1 → seen right s1 ≡ gives y now
    → (concatenation_uses left right place t c).object s ≡ gives (lived Plain (concatenated place x y)) now
concatenates left right place t c s s1 now x y first second =
    ap (λ (w : Gives Seen). seen right w.state >> λ y s. gives (lived Plain (concatenated place w.given y)) s) first
    ∙ ap (λ (w : Gives Seen). gives (lived Plain (concatenated place x w.given)) w.state) second
