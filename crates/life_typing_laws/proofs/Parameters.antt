-- The parameters of a function: they are its first locals, with the types of its header.
use Rattle.std.proofs.Common.{◌≡◌, ℕ, zero, suc, ◌+◌, ◌<◌, Bool, true, false, Some, Ok, List, [], ◌∷◌, ◌++◌, length, map, slice_get, refl, sym, ap, subst, ◌∙◌, arith, append_assoc, length-append, if◌then◌else◌}
use Rattle.std.specs.Prelude.{nat_lt}
use Rattle.std.proofs.lemmas.Bool.{ltb-true}
use Rattle.std.proofs.lemmas.List.{map-append}
use Rattle.std.proofs.lemmas.Option.{slice_get_within}
use Rattle.life_types.specs.Types.{Types}
use Rattle.life_types.specs.declared.ty.NameId.{NameId}
use Rattle.life_types.specs.declared.ty.TyId.{TyId}
use Rattle.life_types.proofs.TreeLemmas.{IsThere, last_in, stays_in, within}
use Rattle.life_tree.specs.declared.function.Parameter.{Parameter}
use Rattle.life_tree.specs.declared.identifier.Identifier.{Identifier}
use Rattle.life_typed.specs.declared.typed_program.TypedLocal.{TypedLocal}
use Rattle.life_names.specs.Environment.{Scope, declared}
use Rattle.life_names.specs.declared.environment.Entity.TheVariants as entity
use Rattle.life_typing.specs.Answers.{Kept, ◌>>◌}
use Rattle.life_typing.specs.Attributes.{parameter_attributes}
use Rattle.life_typing.specs.Parameters.{declared_behind, known_parameter, is_seen, is_something, known_or_void, parameter_local, parameter_name, parameter_rules, parameter_with}
use Rattle.life_typing_laws.proofs.Domains.{Reach}
use Rattle.life_well_typed.specs.Expressions.{type_of}
use Rattle.life_well_typed.specs.Visible.{with_parameters}
use Rattle.life_well_typed.specs.Tables.{IsObject}
use Rattle.life_typing_laws.proofs.Growing.{AreObjects}
use Rattle.life_typing_laws.proofs.Reading.{append_none}
use Rattle.life_typing_laws.proofs.Scopes.{IsDeclared, IsFree, Moves, behind_declared, declared_is, declared_moves, declared_sound, moves_not, moves_on}
use Rattle.life_typing_laws.proofs.Steps.{Answered, answered}
use Rattle.life_typing_laws.specs.Sound.{IsSound}

-- ---- their types

-- a type that is known isn't void
known_object : (known : List TyId) (types : Types) (k : ℕ) → AreObjects types known → k < length known → IsObject types (known_or_void known k)
known_object [] types k are few = absurd (omega (arith, few))
known_object (id ∷ ids) types zero are few = are.0
known_object (id ∷ ids) types (suc k) are few = known_object ids types k are.1 (omega (arith, few))

-- .. of these parameters, the first of which has the number k
abbrev pub parameter_ids : List TyId → ℕ → List Parameter → List TyId
parameter_ids known k [] = []
parameter_ids known k (q ∷ ps) = known_or_void known k ∷ parameter_ids known (suc k) ps

ids_later : (id : TyId) (ids : List TyId) (k : ℕ) (ps : List Parameter) → parameter_ids (id ∷ ids) (suc k) ps ≡ parameter_ids ids k ps
ids_later id ids k [] = refl
ids_later id ids k (q ∷ ps) = ap (λ (rest : List TyId). known_or_void ids k ∷ rest) (ids_later id ids (suc k) ps)

-- where all are known, they are those
pub ids_known : (known : List TyId) (ps : List Parameter) → length known ≡ length ps → parameter_ids known 0 ps ≡ known
ids_known [] [] e = refl
ids_known [] (q ∷ ps) e = absurd (omega (arith, e))
ids_known (id ∷ ids) [] e = absurd (omega (arith, e))
ids_known (id ∷ ids) (q ∷ ps) e = let less : length ids ≡ length ps = omega (arith, e) in ap (λ (rest : List TyId). id ∷ rest) (ids_later id ids 0 ps ∙ ids_known ids ps less)

-- ---- their names

abbrev pub names_of : List Parameter → List NameId
names_of [] = []
names_of (q ∷ ps) = q.name.id ∷ names_of ps

-- what isn't seen is no function
free_unseen : (name : NameId) (scope : Scope) → is_seen scope name ≡ false → IsFree name scope
free_unseen name scope unseen n there = never (rw there at unseen)
  where
    never : is_something (entity.Function n) ≡ false → ⊥
    never h = cc

-- whether the first ones were seen is kept
hides_stay : (known : List TyId) (ps : List Parameter) (hides : List Bool) (scope : Scope) (x : List Bool × Scope) → declared_behind hides known ps scope ≡ Ok x
    → (k : ℕ) (b : Bool) → slice_get hides k ≡ Some b → slice_get x.0 k ≡ Some b
hides_stay known [] hides scope x e k b there =
    let same : ◌≡◌ {A = List Bool × Scope} (hides, scope) x = cc in subst (λ (y : List Bool × Scope). slice_get y.0 k ≡ Some b) same there
hides_stay known (q ∷ ps) hides scope x e k b there =
    let step = answered (declared (parameter_local q (known_or_void known (length hides))) scope) (λ (y : ℕ × Scope). declared_behind (hides ++ is_seen scope q.name.id ∷ []) known ps y.1) x e in
    hides_stay known ps (hides ++ is_seen scope q.name.id ∷ []) step.value.1 x step.behind k b (stays_in hides (is_seen scope q.name.id ∷ []) k b there)

-- the names of parameters hide none
abbrev pub HideNothing : List Bool → Type 0
HideNothing hides = (k : ℕ) (b : Bool) → slice_get hides k ≡ Some b → b ≡ false

-- ---- what is visible behind them

pub record AreParameters (known : List TyId) (k : ℕ) (ps : List Parameter) (scope : Scope) (types : Types) (x : List Bool × Scope) : Type 0 where
  pub sound : IsSound (with_parameters (k + length ps)) x.1 types
  pub moves : Moves (names_of ps) scope x.1 types types
  pub ids : map type_of x.1.locals ≡ map type_of scope.locals ++ parameter_ids known k ps

abbrev more_hides : Parameter → List Bool → Scope → List Bool
more_hides q hides scope = hides ++ is_seen scope q.name.id ∷ []

abbrev with_known_type : Parameter → List TyId → ℕ → TypedLocal
with_known_type q known k = parameter_local q (known_or_void known k)

module _ (known : List TyId) (types : Types) (objects : AreObjects types known) where
  pub parameters_are : (ps : List Parameter) (hides : List Bool) (scope : Scope) (x : List Bool × Scope) → IsSound (with_parameters (length hides)) scope types → HideNothing x.0
      → length known ≡ length hides + length ps → declared_behind hides known ps scope ≡ Ok x → AreParameters known (length hides) ps scope types x
  parameters_are [] hides scope x sound nothing_hidden all e =
      let same : ◌≡◌ {A = List Bool × Scope} (hides, scope) x = cc in
      let none : length hides ≡ length hides + 0 = omega arith in
      subst (AreParameters known (length hides) [] scope types) same (record {
        sound = subst (λ (n : ℕ). IsSound (with_parameters n) scope types) none sound;
        moves = moves_not (with_parameters (length hides)) scope types sound;
        ids = sym (append_none (map type_of scope.locals));
      })
  parameters_are (q ∷ ps) hides scope x sound nothing_hidden all e = made (λ s sound_now h. parameters_are ps (more_hides q hides scope) s x sound_now nothing_hidden (all ∙ sym total) h)
    where
      step : Answered (declared (with_known_type q known (length hides)) scope) (λ (y : ℕ × Scope). declared_behind (more_hides q hides scope) known ps y.1) x
      step = answered (declared (with_known_type q known (length hides)) scope) (λ (y : ℕ × Scope). declared_behind (more_hides q hides scope) known ps y.1) x e

      d : IsDeclared (with_known_type q known (length hides)) scope step.value
      d = declared_is (with_known_type q known (length hides)) scope step.value step.gave

      object_now : IsObject types (with_known_type q known (length hides)).ty
      object_now = known_object known types (length hides) objects (omega (arith, all))

      unseen : is_seen scope q.name.id ≡ false
      unseen = nothing_hidden (length hides) (is_seen scope q.name.id)
          (hides_stay known ps (more_hides q hides scope) step.value.1 x step.behind (length hides) (is_seen scope q.name.id) (last_in hides (is_seen scope q.name.id)))

      free : IsFree (with_known_type q known (length hides)).name scope
      free = free_unseen q.name.id scope unseen

      next : IsSound (with_parameters (suc (length hides))) (behind_declared (with_known_type q known (length hides)) scope) types
      next = declared_sound (with_known_type q known (length hides)) (with_parameters (length hides)) scope types sound object_now

      one_more : suc (length hides) ≡ length (more_hides q hides scope)
      one_more = simp length-append (omega arith)

      sound_now : IsSound (with_parameters (length (more_hides q hides scope))) step.value.1 types
      sound_now = subst (λ (s : Scope). IsSound (with_parameters (length (more_hides q hides scope))) s types) (sym d.behind)
          (subst (λ (n : ℕ). IsSound (with_parameters n) (behind_declared (with_known_type q known (length hides)) scope) types) one_more next)

      total : length (more_hides q hides scope) + length ps ≡ length hides + suc (length ps)
      total = omega (arith, one_more)

      first : Moves ((with_known_type q known (length hides)).name ∷ []) scope step.value.1 types types
      first = subst (λ (s : Scope). Moves ((with_known_type q known (length hides)).name ∷ []) scope s types types) (sym d.behind) (declared_moves (with_known_type q known (length hides)) (with_parameters (length hides)) scope types sound object_now free)

      ids_now : map type_of step.value.1.locals ≡ map type_of scope.locals ++ known_or_void known (length hides) ∷ []
      ids_now = subst (λ (s : Scope). map type_of s.locals ≡ map type_of scope.locals ++ known_or_void known (length hides) ∷ []) (sym d.behind) (map-append type_of scope.locals ((with_known_type q known (length hides)) ∷ []))

      joined : AreParameters known (length (more_hides q hides scope)) ps step.value.1 types x → map type_of x.1.locals ≡ map type_of scope.locals ++ known_or_void known (length hides) ∷ parameter_ids known (length (more_hides q hides scope)) ps
      joined rest = rest.ids ∙ ap (λ (xs : List TyId). xs ++ parameter_ids known (length (more_hides q hides scope)) ps) ids_now ∙ append_assoc (map type_of scope.locals) (known_or_void known (length hides) ∷ []) (parameter_ids known (length (more_hides q hides scope)) ps)

      with_rest : AreParameters known (length (more_hides q hides scope)) ps step.value.1 types x → AreParameters known (length hides) (q ∷ ps) scope types x
      with_rest rest = record {
        sound = subst (λ (n : ℕ). IsSound (with_parameters n) x.1 types) total rest.sound;
        moves = moves_on ((with_known_type q known (length hides)).name ∷ []) (names_of ps) scope step.value.1 x.1 types types types first rest.moves;
        ids = subst (λ (n : ℕ). map type_of x.1.locals ≡ map type_of scope.locals ++ known_or_void known (length hides) ∷ parameter_ids known n ps) (sym one_more) (joined rest);
      }

      made : ((s : Scope) → IsSound (with_parameters (length (more_hides q hides scope))) s types → declared_behind (more_hides q hides scope) known ps s ≡ Ok x → AreParameters known (length (more_hides q hides scope)) ps s types x)
          → AreParameters known (length hides) (q ∷ ps) scope types x
      made others = with_rest (others step.value.1 sound_now step.behind)

-- ---- what the rules on parameters say

-- a parameter whose name was seen breaks one
no_hiding : (b : Bool) (name : Identifier) (u : Unit {0}) → parameter_name (Some b) name ≡ Ok u → b ≡ false
no_hiding true name u e = absurd (cc)
no_hiding false name u e = refl

module _ (scope : Scope) (reaches : List Reach) (hides : List Bool) where
  rule_of : (index : ℕ) (p : Parameter) (ps : List Parameter) (u : Unit {0}) (b : Bool) → index < length reaches → slice_get hides index ≡ Some b → parameter_rules scope reaches hides index (p ∷ ps) ≡ Ok u
      → (b ≡ false) × (parameter_rules scope reaches hides (index + 1) ps ≡ Ok u)
  rule_of index p ps u b few there e = go (nat_lt (length reaches) index) refl e
    where
      of : (reach : Reach) → slice_get reaches index ≡ Some reach → (parameter_with scope p (slice_get reaches index) (slice_get hides index) >> (λ _. parameter_rules scope reaches hides (index + 1) ps)) ≡ Ok u
          → (b ≡ false) × (parameter_rules scope reaches hides (index + 1) ps ≡ Ok u)
      of reach known h =
          let both : (known_parameter scope p reach (Some b) >> (λ _. parameter_rules scope reaches hides (index + 1) ps)) ≡ Ok u = rw (known, there) at h in
          let step = answered (known_parameter scope p reach (Some b)) (λ _. parameter_rules scope reaches hides (index + 1) ps) u both in
          let name = answered (parameter_attributes scope (Some reach) p.attributes.items) (λ _. parameter_name (Some b) p.name) step.value step.gave in
          (no_hiding b p.name step.value name.behind, step.behind)

      go : (past : Bool) → nat_lt (length reaches) index ≡ past → ◌≡◌ {A = Kept} (if past then Ok tt else (parameter_with scope p (slice_get reaches index) (slice_get hides index) >> (λ _. parameter_rules scope reaches hides (index + 1) ps))) (Ok u)
          → (b ≡ false) × (parameter_rules scope reaches hides (index + 1) ps ≡ Ok u)
      go true is h = absurd (omega (arith, few, ltb-true (length reaches) index is))
      go false is h = let found : IsThere reaches index = within reaches index few in of found.item found.there h

  -- from the parameter with this index on
  rules_fine : (index : ℕ) (ps : List Parameter) (u : Unit {0}) → length reaches ≡ index + length ps → length hides ≡ index + length ps → parameter_rules scope reaches hides index ps ≡ Ok u
      → (k : ℕ) (b : Bool) → k < length ps → slice_get hides (index + k) ≡ Some b → b ≡ false
  rules_fine index [] u count size e k b few there = absurd (omega (arith, few))
  rules_fine index (p ∷ ps) u count size e zero b few there =
      let here : index + 0 ≡ index = omega arith in
      (rule_of index p ps u b (omega (arith, count)) (subst (λ (i : ℕ). slice_get hides i ≡ Some b) here there) e).0
  rules_fine index (p ∷ ps) u count size e (suc k) b few there =
      let found : IsThere hides index = within hides index (omega (arith, size)) in
      let next = rule_of index p ps u found.item (omega (arith, count)) found.there e in
      let later : index + suc k ≡ (index + 1) + k = omega arith in
      rules_fine (index + 1) ps u (omega (arith, count)) (omega (arith, size)) next.1 k b (omega (arith, few)) (subst (λ (i : ℕ). slice_get hides i ≡ Some b) later there)

  pub nothing_hidden : (ps : List Parameter) (u : Unit {0}) → length reaches ≡ length ps → length hides ≡ length ps → parameter_rules scope reaches hides 0 ps ≡ Ok u → HideNothing hides
  nothing_hidden ps u count size e k b there =
      let few : k < length hides = slice_get_within hides k b there in
      let none : 0 + k ≡ k = omega arith in
      rules_fine 0 ps u (omega (arith, count)) (omega (arith, size)) e k b (omega (arith, few, size)) (subst (λ (i : ℕ). slice_get hides i ≡ Some b) (sym none) there)

-- of each it is known whether its name was seen
pub hides_count : (known : List TyId) (ps : List Parameter) (hides : List Bool) (scope : Scope) (x : List Bool × Scope) → declared_behind hides known ps scope ≡ Ok x → length x.0 ≡ length hides + length ps
hides_count known [] hides scope x e =
    let same : ◌≡◌ {A = List Bool × Scope} (hides, scope) x = cc in
    let none : length hides ≡ length hides + 0 = omega arith in
    subst (λ (y : List Bool × Scope). length y.0 ≡ length hides + 0) same none
hides_count known (q ∷ ps) hides scope x e =
    let step = answered (declared (parameter_local q (known_or_void known (length hides))) scope) (λ (y : ℕ × Scope). declared_behind (hides ++ is_seen scope q.name.id ∷ []) known ps y.1) x e in
    let rest = hides_count known ps (hides ++ is_seen scope q.name.id ∷ []) step.value.1 x step.behind in
    let one : length (hides ++ is_seen scope q.name.id ∷ []) ≡ suc (length hides) = simp length-append (omega arith) in
    omega (arith, rest, one)
