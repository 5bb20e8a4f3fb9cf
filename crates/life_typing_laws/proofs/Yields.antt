-- What holds of all that checking may give, step by step.
use Rattle.std.proofs.Common.{◌≡◌, Bool, true, false, Ok, Err, if◌then◌else◌, subst}
use Rattle.life_types.specs.Types.{Types}
use Rattle.life_names.specs.Checked.{Checked, Ill, ◌>>=◌}
use Rattle.life_names.specs.Found.{Found, found_in, given}
use Rattle.life_typing.specs.Answers.{Answer, ◌>>◌}
use Rattle.life_typing_laws.proofs.Steps.{answered, bound, found_ok, given_ok}

-- it holds of what is given, if a value is given
abbrev pub Yields : {A : Type 0} → (A → Type 0) → Checked A → Type 0
Yields {A = A} P c = (x : A × Types) → c ≡ Ok x → P x.0

abbrev pub Finds : {A : Type 0} → (A → Type 0) → Found A → Type 0
Finds {A = A} P found = (x : A) → found ≡ Ok x → P x

pub finds_ok : {A : Type 0} (P : A → Type 0) (x : A) → P x → Finds P (Ok x)
finds_ok {A = A} P x holds y e = let same : x ≡ y = cc in subst P same holds

pub finds_none : {A : Type 0} (P : A → Type 0) (ill : Ill) → Finds P (Err ill)
finds_none P ill y e = absurd (cc)

pub yields_ok : {A : Type 0} (P : A → Type 0) (x : A) (types : Types) → P x → Yields P (Ok (x, types))
yields_ok {A = A} P x types holds y e = let same : ◌≡◌ {A = A × Types} (x, types) y = cc in subst (λ (z : A × Types). P z.0) same holds

pub yields_then : {A B : Type 0} (P : A → Type 0) (Q : B → Type 0) (first : Checked A) (rest : A × Types → Checked B) → Yields P first → ((x : A × Types) → P x.0 → Yields Q (rest x)) → Yields Q (first >>= rest)
yields_then P Q first rest held behind y e = let b = bound first rest y e in behind b.value (held b.value b.gave) y b.behind

pub yields_given : {A B : Type 0} (Q : B → Type 0) (found : Found A) (rest : A → Checked B) → ((x : A) → Yields Q (rest x)) → Yields Q (given found rest)
yields_given Q found rest behind y e = let b = given_ok found rest y e in behind b.value y b.behind

pub yields_given_with : {A B : Type 0} (P : A → Type 0) (Q : B → Type 0) (found : Found A) (rest : A → Checked B) → Finds P found → ((x : A) → P x → Yields Q (rest x)) → Yields Q (given found rest)
yields_given_with P Q found rest held behind y e = let b = given_ok found rest y e in behind b.value (held b.value b.gave) y b.behind

pub yields_found : {A : Type 0} (P : A → Type 0) (types : Types) (found : Found A) → Finds P found → Yields P (found_in types found)
yields_found P types found held y e = held y.0 (found_ok types found y e).0

pub yields_behind : {A B : Type 0} (Q : B → Type 0) (first : Checked A) (rest : A × Types → Checked B) → ((x : A × Types) → Yields Q (rest x)) → Yields Q (first >>= rest)
yields_behind Q first rest behind y e = let b = bound first rest y e in behind b.value y b.behind

pub finds_if : {A : Type 0} (P : A → Type 0) (b : Bool) (x : A) (ill : Ill) → P x → Finds P (if b then Ok x else Err ill)
finds_if P true x ill holds = finds_ok P x holds
finds_if P false x ill holds = finds_none P ill

pub finds_then : {A B : Type 0} (P : A → Type 0) (Q : B → Type 0) (first : Answer A) (rest : A → Answer B) → Finds P first → ((x : A) → P x → Finds Q (rest x)) → Finds Q (first >> rest)
finds_then P Q first rest held behind y e = let b = answered first rest y e in behind b.value (held b.value b.gave) y b.behind

pub finds_behind : {A B : Type 0} (Q : B → Type 0) (first : Answer A) (rest : A → Answer B) → ((x : A) → Finds Q (rest x)) → Finds Q (first >> rest)
finds_behind Q first rest behind y e = let b = answered first rest y e in behind b.value y b.behind
