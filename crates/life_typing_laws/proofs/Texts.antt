-- `std::string(e)` is well typed.
use Rattle.std.proofs.Common.{◌≡◌, Bool, true, false, Ok, sym, subst, if◌then◌else◌}
use Rattle.life_types.specs.Types.{Types}
use Rattle.life_types.specs.declared.place.Place.{Place}
use Rattle.life_types.specs.declared.ty.Ty.TheVariants as ty
use Rattle.life_typed.specs.TypedForm.{Typed, text_of, whole}
use Rattle.life_names.specs.Checked.{◌>>=◌}
use Rattle.life_names.specs.Found.{Found, found_in, not_found}
use Rattle.life_names.specs.declared.fault.IllKind.TheVariants as kinds
use Rattle.life_type_expr.specs.Lists.{Meaning}
use Rattle.life_type_expr.specs.Operands.{makes_text, text_made, value}
use Rattle.life_typing_laws.proofs.Steps.{bound, found_ok}
use Rattle.life_typing_laws.proofs.Typed.{Good, IsGood, IsTyped}

abbrev pub text_part : Place → Place → Meaning → Meaning
text_part place closing operand scope types = operand scope types >>= (λ x. found_in x.1 (text_made place closing x.0))

text_is : (place closing : Place) (inner e : Typed) → text_made place closing inner ≡ Ok e → value place ty.Text (text_of (whole inner) closing) ≡ e
text_is place closing inner e h = go (makes_text inner.ty) h
  where
    go : (b : Bool) → ◌≡◌ {A = Found Typed} (if b then Ok (value place ty.Text (text_of (whole inner) closing)) else not_found kinds.WrongType place) (Ok e) → value place ty.Text (text_of (whole inner) closing) ≡ e
    go true h = cc
    go false h = absurd (cc)

pub text_good : (place closing : Place) (operand : Meaning) → Good operand → Good (text_part place closing operand)
text_good place closing operand good v scope types x e sound =
    let step = bound (operand scope types) (λ y. found_in y.1 (text_made place closing y.0)) x e in
    let found = found_ok step.value.1 (text_made place closing step.value.0) x step.behind in
    let is = text_is place closing step.value.0 x.0 found.0 in
    let inner = good v scope types step.value step.gave sound in
    subst (λ (s : Types). IsGood v scope types (x.0, s)) found.1 (record {
      grown = inner.grown;
      is = λ p locals final.
          subst (IsTyped p locals v step.value.1) is (record { is = (subst (λ (y : Typed). text_made place closing step.value.0 ≡ Ok y) (sym is) found.0, (inner.is p locals final).is); parts = tt; place = tt });
    })
