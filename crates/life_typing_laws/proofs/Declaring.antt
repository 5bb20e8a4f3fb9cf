-- A function is declared: again, or for the first time.
use Rattle.std.proofs.Common.{◌≡◌, ℕ, ◌-◌, ◌^◌, Bool, true, false, not, ◌&&◌, Option, Some, None, Result, Ok, Err, List, length, slice_get, refl, sym, ap, subst, ◌∙◌, if◌then◌else◌}
use Rattle.std.specs.Prelude.{nat_lt, unwrap_or}
use Rattle.std.proofs.lemmas.Bool.{and_parts}
use Rattle.life_types.specs.declared.place.Place.{Place}
use Rattle.life_types.specs.declared.ty.NameId.{NameId}
use Rattle.life_types.specs.declared.ty.TyId.{TyId}
use Rattle.life_tree.specs.declared.function.Function.{Function}
use Rattle.life_names.specs.Checked.{Ill}
use Rattle.life_names.specs.Environment.{Scope, SignatureView, function_declared, meaning, numbered, seen_as, with_function}
use Rattle.life_names.specs.declared.environment.Entity.{Entity}
use Rattle.life_names.specs.declared.environment.Entity.TheVariants as entity
use Rattle.life_names.specs.declared.fault.IllKind.{IllKind}
use Rattle.life_names.specs.declared.fault.IllKind.TheVariants as kinds
use Rattle.life_typing.specs.Answers.{◌>>◌}
use Rattle.life_typing.specs.Functions as functions
use Rattle.life_typing.specs.Functions.{PartsView, behind_header, declared_first, header, with_first, with_parameters_forgotten}
use Rattle.life_typing.specs.Names.{DeclaredView, both_agree, fits_main, gets_body, has_body, has_flag, is_main, may_declare, pieces_agree, types_agree}
use Rattle.life_typing.specs.Pieces.{pieces}
use Rattle.life_typing.specs.Progress.{ProgressView}
use Rattle.life_typing_laws.proofs.Domains.{Piece}
use Rattle.life_typing_laws.proofs.Headers.{HeaderIs, header_is}
use Rattle.life_typing_laws.proofs.Steps.{answered, not_both, same_answer}

-- ---- what the rules on its name say

fault_parts : (may main gets : Bool) → ◌≡◌ {A = Option IllKind} (if not may then Some kinds.Redeclared else (if main then Some kinds.WrongType else (if not gets then Some kinds.NoBody else None))) None
    → (may ≡ true) × (gets ≡ true)
fault_parts false main gets e = absurd (cc)
fault_parts true true gets e = absurd (cc)
fault_parts true false false e = absurd (cc)
fault_parts true false true e = (refl, refl)

-- what is named `main` has its types
pub main_fits : (may main fits gets : Bool)
    → ◌≡◌ {A = Option IllKind} (if not may then Some kinds.Redeclared else (if main && not fits then Some kinds.WrongType else (if not gets then Some kinds.NoBody else None))) None
    → main ≡ true → fits ≡ true
main_fits false main fits gets e is = absurd (cc)
main_fits true false fits gets e is = absurd (cc)
main_fits true true false gets e is = absurd (cc)
main_fits true true true gets e is = refl

-- there is an earlier declaration, with which this one agrees
pub record Agrees (signature : Option SignatureView) (noted : Option DeclaredView) (returned : TyId) (parameters : List TyId) (said : List Piece) (bodied : Bool) : Type 0 where
  pub s : SignatureView
  pub d : DeclaredView
  pub there : signature ≡ Some s
  pub noted_there : noted ≡ Some d
  pub types : types_agree returned parameters s ≡ true
  pub says : pieces_agree said bodied d ≡ true

agrees : (signature : Option SignatureView) (noted : Option DeclaredView) (returned : TyId) (parameters : List TyId) (said : List Piece) (bodied : Bool)
    → both_agree signature noted returned parameters said bodied ≡ true → Agrees signature noted returned parameters said bodied
agrees None noted returned parameters said bodied e = absurd (cc)
agrees (Some s) None returned parameters said bodied e = absurd (cc)
agrees (Some s) (Some d) returned parameters said bodied e =
    let parts = and_parts (types_agree returned parameters s) (pieces_agree said bodied d) e in
    record { s = s; d = d; there = refl; noted_there = refl; types = parts.0; says = parts.1 }

-- a function whose body comes has none so far
pub no_second : (said : List Piece) (bodied : Bool) (d : DeclaredView) → pieces_agree said bodied d ≡ true → bodied ≡ true → d.has_body ≡ false
no_second said bodied d e is = of d.has_body bodied is (and_parts _ _ e).1
  where
    of : (has bodied : Bool) → bodied ≡ true → not (has && bodied) ≡ true → has ≡ false
    of true true is e = absurd (cc)
    of true false is e = absurd (cc)
    of false bodied is e = refl

flag_there : (bodies : List Bool) (name : NameId) → has_flag bodies name ≡ true → slice_get bodies name.0 ≡ Some true
flag_there bodies name e = of (slice_get bodies name.0) e
  where
    of : (o : Option Bool) → unwrap_or o false ≡ true → o ≡ Some true
    of None e = absurd (cc)
    of (Some b) e = ap (λ (z : Bool). Some z) e

pub numbered_is : (n : ℕ) (place : Place) (scope : Scope) (x : ℕ × Scope) → numbered n place scope ≡ Ok x → ◌≡◌ {A = ℕ × Scope} (n, scope) x
numbered_is n place scope x e = go (nat_lt n (2 ^ 32 - 1)) e
  where
    go : (b : Bool) → ◌≡◌ {A = Result (ℕ × Scope) Ill} (if b then Ok (n, scope) else Err (record { kind = kinds.Unsupported; place = place })) (Ok x) → ◌≡◌ {A = ℕ × Scope} (n, scope) x
    go true e = cc
    go false e = absurd (cc)

-- ---- what is declared by a header

module _ {bodies : List Bool} {before : Entity} {f : Function} {p : ProgressView} {x : PartsView × ProgressView} (h : HeaderIs bodies before f p x) where
  abbrev pub said : List Piece
  said = pieces h.scope f

  abbrev pub parts : PartsView
  parts = record { returned = h.returned.ty; parameters = h.known.types; pieces = said }

  abbrev pub with_header : ProgressView
  with_header = record p { scope = h.scope; types = h.types }

  abbrev pub signature : SignatureView
  signature = record { result = h.returned.ty; parameters = h.known.types }

  abbrev pub noted : DeclaredView
  noted = record { pieces = said; has_body = false }

  -- for the first time
  abbrev pub behind_first : ProgressView
  behind_first = record (with_first f parts with_header) { scope = seen_as f.name.id (entity.Function (length h.scope.functions)) (with_function signature h.scope) }

  -- .. or again
  abbrev pub AgreesAt : ℕ → Type 0
  AgreesAt number = Agrees (slice_get h.scope.functions number) (slice_get p.declared number) h.returned.ty h.known.types said (has_body f.body)

-- what holds of both holds of what is declared
module _ {bodies : List Bool} {f : Function} {p : ProgressView} {x : PartsView × ProgressView} (h : HeaderIs bodies (meaning p.scope f.name.id) f p x) (Holds : ℕ × ProgressView → Type 0)
    (again : (number : ℕ) → meaning p.scope f.name.id ≡ entity.Function number → AgreesAt h number → Holds (number, with_header h))
    (first : slice_get bodies f.name.id.0 ≡ Some true → meaning p.scope f.name.id ≡ entity.Unseen → Holds (length h.scope.functions, behind_first h)) where
  abbrev MayBe : Entity → Type 0
  MayBe before = (may_declare h.scope p.declared before h.returned.ty h.known.types (said h) (has_body f.body) ≡ true) × (gets_body bodies before f.name.id ≡ true)

  first_of : (y : ℕ × ProgressView) → slice_get bodies f.name.id.0 ≡ Some true → meaning p.scope f.name.id ≡ entity.Unseen → declared_first f (parts h) (with_header h) ≡ Ok y → Holds y
  first_of y flagged unseen e =
      let step = answered (function_declared f.name.id f.name.place (signature h) h.scope) (λ x. Ok (x.0, record (with_first f (parts h) (with_header h)) { scope = x.1 })) y e in
      let number = numbered_is (length h.scope.functions) f.name.place (seen_as f.name.id (entity.Function (length h.scope.functions)) (with_function (signature h) h.scope)) step.value step.gave in
      subst Holds
      (ap (λ (z : ℕ × Scope). (z.0, record (with_first f (parts h) (with_header h)) { scope = z.1 })) number
      ∙ same_answer (step.value.0, record (with_first f (parts h) (with_header h)) { scope = step.value.1 }) y step.behind) (first flagged unseen)

  pub by_way : (y : ℕ × ProgressView) → functions.declared (meaning p.scope f.name.id) f (parts h) (with_header h) ≡ Ok y → Holds y
  by_way y e = go (meaning p.scope f.name.id) refl e
    where
      may : (before : Entity) → meaning p.scope f.name.id ≡ before → MayBe before
      may before is = subst MayBe is (fault_parts (may_declare h.scope p.declared (meaning p.scope f.name.id) h.returned.ty h.known.types (said h) (has_body f.body))
          (is_main h.scope f.name.id && not (fits_main h.returned.ty f.parameters.items)) (gets_body bodies (meaning p.scope f.name.id) f.name.id) h.names)

      go : (before : Entity) → meaning p.scope f.name.id ≡ before → functions.declared before f (parts h) (with_header h) ≡ Ok y → Holds y
      go entity.Unseen is e = first_of y (flag_there bodies f.name.id (may entity.Unseen is).1) is e
      go (entity.Structure number) is e = not_both false (may (entity.Structure number) is).0 refl
      go (entity.Function number) is e =
          subst Holds (same_answer (number, with_header h) y e)
          (again number is (agrees (slice_get h.scope.functions number) (slice_get p.declared number) h.returned.ty h.known.types (said h) (has_body f.body) (may (entity.Function number) is).0))
      go (entity.Local number) is e = not_both false (may (entity.Local number) is).0 refl

-- ---- a whole function, step by step

pub record IsFunction (bodies : List Bool) (f : Function) (p q : ProgressView) : Type 0 where
  pub x : PartsView × ProgressView
  pub h : HeaderIs bodies (meaning p.scope f.name.id) f p x
  pub y : ℕ × ProgressView
  pub declared : functions.declared (meaning p.scope f.name.id) f (parts h) (with_header h) ≡ Ok y
  pub z : ProgressView
  pub behind : behind_header f y.0 h.returned.ty y.1 ≡ Ok z
  pub is : with_parameters_forgotten f z ≡ q

pub function_is : (bodies : List Bool) (f : Function) (p q : ProgressView) → functions.with_function bodies f p ≡ Ok q → IsFunction bodies f p q
function_is bodies f p q e =
    let first = answered (header bodies (meaning p.scope f.name.id) f p)
    (λ x. functions.declared (meaning p.scope f.name.id) f x.0 x.1 >> λ y. behind_header f y.0 x.0.returned y.1 >> λ z. Ok (with_parameters_forgotten f z)) q e in
    let second = answered (functions.declared (meaning p.scope f.name.id) f first.value.0 first.value.1)
    (λ y. behind_header f y.0 first.value.0.returned y.1 >> λ z. Ok (with_parameters_forgotten f z)) q first.behind in
    let third = answered (behind_header f second.value.0 first.value.0.returned second.value.1) (λ z. Ok (with_parameters_forgotten f z)) q second.behind in
    let h : HeaderIs bodies (meaning p.scope f.name.id) f p first.value = header_is bodies (meaning p.scope f.name.id) f p first.value first.gave in
    record {
      x = first.value;
      h = h;
      y = second.value;
      declared = subst (λ (u : PartsView × ProgressView). functions.declared (meaning p.scope f.name.id) f u.0 u.1 ≡ Ok second.value) (sym h.is) second.gave;
      z = third.value;
      behind = subst (λ (u : PartsView × ProgressView). behind_header f second.value.0 u.0.returned second.value.1 ≡ Ok third.value) (sym h.is) third.gave;
      is = same_answer (with_parameters_forgotten f third.value) q third.behind;
    }
