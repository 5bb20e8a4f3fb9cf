-- What is visible as checking goes on: names mean variables that are declared and whose block hasn't ended.
use Rattle.std.proofs.Common.{◌≡◌, ◌⊎◌, inl, inr, ⊎_elim, ℕ, zero, suc, ◌-◌, ◌^◌, Bool, true, false, List, [], ◌∷◌, ◌++◌, Some, Ok, Contains, length, slice_get, slice_set, refl, sym, ap, subst, ◌∙◌, arith, length-append}
use Rattle.std.specs.Prelude.{Result, Err, nat_lt, if◌then◌else◌}
use Rattle.std.proofs.lemmas.List.Elements.{Contains-append_left, Contains-append_right}
use Rattle.life_types.specs.Types.{Types}
use Rattle.life_types.specs.declared.ty.NameId.{NameId}
use Rattle.life_types.proofs.TreeLemmas.{in_more, last_in, stays_in}
use Rattle.life_typed.specs.Programs.{ProgramForm}
use Rattle.life_typed.specs.declared.typed_program.TypedLocal.{TypedLocal}
use Rattle.life_names.specs.Checked.{Ill}
use Rattle.life_names.specs.Environment.{Scope, SignatureView, StructureView, declared, forgotten, seen_as, with_local}
use Rattle.life_names.specs.declared.environment.Entity.TheVariants as entity
use Rattle.life_names.specs.declared.fault.IllKind.TheVariants as kinds
use Rattle.life_well_typed.specs.Tables.{IsObject}
use Rattle.life_well_typed.specs.Visible.{Visible, with_next}
use Rattle.life_typing_laws.proofs.Growing.{IsGrown, grown_not, grown_on, grows_on, object_later, stay_there, stays_there, struct_stays}
use Rattle.life_typing_laws.specs.Sound.{IsFinal, IsSound, Keeps}

-- ---- lists in which one element is changed

pub set_there : {A : Type 0} (xs : List A) (n : ℕ) (x y : A) → slice_get xs n ≡ Some x → slice_get (slice_set xs n y) n ≡ Some y
set_there [] n x y e = absurd (cc)
set_there (z ∷ zs) zero x y e = refl
set_there (z ∷ zs) (suc n) x y e = set_there zs n x y e

pub set_at : {A : Type 0} (xs : List A) (i : ℕ) (y x : A) → slice_get (slice_set xs i y) i ≡ Some x → y ≡ x
set_at [] i y x e = absurd (cc)
set_at (z ∷ zs) zero y x e = cc
set_at (z ∷ zs) (suc i) y x e = set_at zs i y x e

pub set_other : {A : Type 0} (xs : List A) (i k : ℕ) (y x : A) → slice_get (slice_set xs i y) k ≡ Some x → ((i ≡ k) × (y ≡ x)) ⊎ (slice_get xs k ≡ Some x)
set_other [] i k y x e = inr e
set_other (z ∷ zs) zero zero y x e = let same : y ≡ x = cc in inl (refl, same)
set_other (z ∷ zs) zero (suc k) y x e = inr e
set_other (z ∷ zs) (suc i) zero y x e = inr e
set_other (z ∷ zs) (suc i) (suc k) y x e = ⊎_elim (λ here. inl (ap suc here.0, here.1)) (λ there. inr there) (set_other zs i k y x e)

pub set_else : {A : Type 0} (xs : List A) (i k : ℕ) (y : A) → (i ≡ k → ⊥) → slice_get (slice_set xs i y) k ≡ slice_get xs k
set_else [] i k y other = refl
set_else (z ∷ zs) zero zero y other = absurd (other refl)
set_else (z ∷ zs) zero (suc k) y other = refl
set_else (z ∷ zs) (suc i) zero y other = refl
set_else (z ∷ zs) (suc i) (suc k) y other = set_else zs i k y (λ same. other (ap suc same))

pub set_length : {A : Type 0} (xs : List A) (i : ℕ) (y : A) → length (slice_set xs i y) ≡ length xs
set_length [] i y = refl
set_length (z ∷ zs) zero y = refl
set_length (z ∷ zs) (suc i) y = ap suc (set_length zs i y)

-- ---- names

abbrev pub IsIn : List NameId → ℕ → Type 0
IsIn [] k = ⊥
IsIn (name ∷ names) k = (name.0 ≡ k) ⊎ IsIn names k

-- a name that means a variable behind these steps means it before them too, but for these names
abbrev pub ShowsNoMore : List NameId → Scope → Scope → Type 0
ShowsNoMore names before after =
    (k n : ℕ) → slice_get after.visible k ≡ Some (entity.Local n) → IsIn names k ⊎ (slice_get before.visible k ≡ Some (entity.Local n))

-- what meant a function means it still, and is none of these names
abbrev pub KeepsFunctions : List NameId → Scope → Scope → Type 0
KeepsFunctions names before after =
    (k n : ℕ) → slice_get before.visible k ≡ Some (entity.Function n) → (IsIn names k → ⊥) × (slice_get after.visible k ≡ Some (entity.Function n))

-- .. and nothing else means one
abbrev pub MeansNoMore : Scope → Scope → Type 0
MeansNoMore before after = (k n : ℕ) → slice_get after.visible k ≡ Some (entity.Function n) → slice_get before.visible k ≡ Some (entity.Function n)

-- a name that means no function
abbrev pub IsFree : NameId → Scope → Type 0
IsFree name scope = (n : ℕ) → slice_get scope.visible name.0 ≡ Some (entity.Function n) → ⊥

-- a block that ends forgets the names that it declared
pub forgotten_means : (names : List NameId) (scope : Scope) (k n : ℕ) → slice_get (forgotten names scope).visible k ≡ Some (entity.Local n)
    → (IsIn names k → ⊥) × (slice_get scope.visible k ≡ Some (entity.Local n))
forgotten_means [] scope k n e = (λ no_name. no_name, e)
forgotten_means (name ∷ names) scope k n e =
    let rest = forgotten_means names (seen_as name entity.Unseen scope) k n e in (
      λ among. ⊎_elim (λ same. never (subst (λ (i : ℕ). slice_get (slice_set scope.visible name.0 entity.Unseen) i ≡ Some (entity.Local n)) (sym same) rest.1)) rest.0 among,
      ⊎_elim (λ here. absurd (other here.1)) (λ there. there) (set_other scope.visible name.0 k entity.Unseen (entity.Local n) rest.1),
    )
  where
    other : entity.Unseen ≡ entity.Local n → ⊥
    other e = cc

    never : slice_get (slice_set scope.visible name.0 entity.Unseen) name.0 ≡ Some (entity.Local n) → ⊥
    never e = other (set_at scope.visible name.0 entity.Unseen (entity.Local n) e)

pub forgotten_keeps : (names : List NameId) (scope : Scope) (k : ℕ) → (IsIn names k → ⊥) → slice_get (forgotten names scope).visible k ≡ slice_get scope.visible k
forgotten_keeps [] scope k none = refl
forgotten_keeps (name ∷ names) scope k none =
    forgotten_keeps names (seen_as name entity.Unseen scope) k (λ among. none (inr among)) ∙ set_else scope.visible name.0 k entity.Unseen (λ same. none (inl same))

pub forgotten_meant : (names : List NameId) (scope : Scope) → MeansNoMore scope (forgotten names scope)
forgotten_meant [] scope k n e = e
forgotten_meant (name ∷ names) scope k n e =
    ⊎_elim (λ here. absurd (other here.1)) (λ there. there) (set_other scope.visible name.0 k entity.Unseen (entity.Function n) (forgotten_meant names (seen_as name entity.Unseen scope) k n e))
  where
    other : entity.Unseen ≡ entity.Function n → ⊥
    other e = cc

pub forgotten_size : (names : List NameId) (scope : Scope) → length (forgotten names scope).visible ≡ length scope.visible
forgotten_size [] scope = refl
forgotten_size (name ∷ names) scope = forgotten_size names (seen_as name entity.Unseen scope) ∙ set_length scope.visible name.0 entity.Unseen

pub forgotten_locals : (names : List NameId) (scope : Scope) → (forgotten names scope).locals ≡ scope.locals
forgotten_locals [] scope = refl
forgotten_locals (name ∷ names) scope = forgotten_locals names (seen_as name entity.Unseen scope)

pub forgotten_functions : (names : List NameId) (scope : Scope) → (forgotten names scope).functions ≡ scope.functions
forgotten_functions [] scope = refl
forgotten_functions (name ∷ names) scope = forgotten_functions names (seen_as name entity.Unseen scope)

pub forgotten_structs : (names : List NameId) (scope : Scope) → (forgotten names scope).structs ≡ scope.structs
forgotten_structs [] scope = refl
forgotten_structs (name ∷ names) scope = forgotten_structs names (seen_as name entity.Unseen scope)

pub forgotten_texts : (names : List NameId) (scope : Scope) → (forgotten names scope).names ≡ scope.names
forgotten_texts [] scope = refl
forgotten_texts (name ∷ names) scope = forgotten_texts names (seen_as name entity.Unseen scope)

-- ---- what a step of checking changes

pub record Moves (names : List NameId) (before after : Scope) (old new : Types) : Type 0 where
  pub grown : IsGrown old new
  pub locals : Keeps before.locals after.locals
  pub locals_there : (n : ℕ) (l : TypedLocal) → slice_get after.locals n ≡ Some l → IsObject new l.ty
  pub functions : after.functions ≡ before.functions
  pub structs : after.structs ≡ before.structs
  pub shows : ShowsNoMore names before after
  pub keeps : KeepsFunctions names before after
  pub means : MeansNoMore before after
  pub texts : after.names ≡ before.names
  pub size : length after.visible ≡ length before.visible

-- .. nothing, where the table stays too
pub moves_not : (v : Visible) (scope : Scope) (types : Types) → IsSound v scope types → Moves [] scope scope types types
moves_not v scope types sound = record {
  grown = grown_not types sound.ordered;
  locals = λ n l e. e;
  locals_there = sound.locals_there;
  functions = refl;
  structs = refl;
  shows = λ k n e. inr e;
  keeps = λ k n e. (λ none. none, e);
  means = λ k n e. e;
  texts = refl;
  size = refl;
}

-- .. two steps
in_first : (xs ys : List NameId) (k : ℕ) → IsIn xs k → IsIn (xs ++ ys) k
in_first [] ys k e = absurd e
in_first (x ∷ xs) ys k e = ⊎_elim (λ here. inl here) (λ there. inr (in_first xs ys k there)) e

in_second : (xs ys : List NameId) (k : ℕ) → IsIn ys k → IsIn (xs ++ ys) k
in_second [] ys k e = e
in_second (x ∷ xs) ys k e = inr (in_second xs ys k e)

not_in_both : (xs ys : List NameId) (k : ℕ) → (IsIn xs k → ⊥) → (IsIn ys k → ⊥) → IsIn (xs ++ ys) k → ⊥
not_in_both [] ys k no_first no_second among = no_second among
not_in_both (x ∷ xs) ys k no_first no_second among =
    ⊎_elim (λ here. no_first (inl here)) (λ there. not_in_both xs ys k (λ later. no_first (inr later)) no_second there) among

pub moves_on : (first second : List NameId) (a b c : Scope) (s t u : Types) → Moves first a b s t → Moves second b c t u → Moves (first ++ second) a c s u
moves_on first second a b c s t u m n = record {
  grown = grown_on s t u m.grown n.grown;
  locals = λ k l e. n.locals k l (m.locals k l e);
  locals_there = n.locals_there;
  functions = n.functions ∙ m.functions;
  structs = n.structs ∙ m.structs;
  shows = λ k x e. ⊎_elim (λ late. inl (in_second first second k late)) (λ old. ⊎_elim (λ early. inl (in_first first second k early)) (λ older. inr older) (m.shows k x old)) (n.shows k x e);
  keeps = λ k x e. let early = m.keeps k x e in let late = n.keeps k x early.1 in (not_in_both first second k early.0 late.0, late.1);
  means = λ k x e. m.means k x (n.means k x e);
  texts = n.texts ∙ m.texts;
  size = n.size ∙ m.size;
}

-- .. behind a block
pub moves_behind : (names : List NameId) (a b : Scope) (s t : Types) → Moves names a b s t → Moves [] a (forgotten names b) s t
moves_behind names a b s t m = record {
  grown = m.grown;
  locals = λ n l e. subst (λ (ls : List TypedLocal). slice_get ls n ≡ Some l) (sym (forgotten_locals names b)) (m.locals n l e);
  locals_there = λ n l e. m.locals_there n l (subst (λ (ls : List TypedLocal). slice_get ls n ≡ Some l) (forgotten_locals names b) e);
  functions = forgotten_functions names b ∙ m.functions;
  structs = forgotten_structs names b ∙ m.structs;
  shows = λ k n e. let found = forgotten_means names b k n e in ⊎_elim (λ among. absurd (found.0 among)) (λ old. inr old) (m.shows k n found.1);
  keeps = λ k n e. let kept = m.keeps k n e in (λ none. none, forgotten_keeps names b k kept.0 ∙ kept.1);
  means = λ k n e. m.means k n (forgotten_meant names b k n e);
  texts = forgotten_texts names b ∙ m.texts;
  size = forgotten_size names b ∙ m.size;
}

-- ---- what holds behind a step

-- behind what declares nothing that is visible behind it
pub sound_behind : (v w : Visible) (a b : Scope) (s t : Types) → IsSound v a s → Moves [] a b s t → length b.locals ≡ w.declared → IsSound (record { declared = w.declared; visible = v.visible }) b t
sound_behind v w a b s t sound m count = record {
  ordered = m.grown.ordered;
  based = grows_on _ s t sound.based m.grown.grows;
  structs_there = λ n x e. struct_stays s t n x m.grown.grows (sound.structs_there n x (subst (λ (xs : List StructureView). slice_get xs n ≡ Some x) m.structs e));
  structs_count = ap length m.grown.structs ∙ sound.structs_count ∙ ap length (sym m.structs);
  locals_there = m.locals_there;
  results_there = λ n f e. stays_there s t f.result m.grown.grows (sound.results_there n f (subst (λ (fs : List SignatureView). slice_get fs n ≡ Some f) m.functions e));
  parameters_there = λ n f e. stay_there s t f.parameters m.grown.grows (sound.parameters_there n f (subst (λ (fs : List SignatureView). slice_get fs n ≡ Some f) m.functions e));
  declared = count;
  visible = λ k n e. ⊎_elim (λ none. absurd none) (λ old. sound.visible k n old) (m.shows k n e);
}

-- .. where the table alone grows
pub table_moves : (v : Visible) (scope : Scope) (old new : Types) → IsSound v scope old → IsGrown old new → Moves [] scope scope old new
table_moves v scope old new sound grown = record {
  grown = grown;
  locals = λ n l e. e;
  locals_there = λ n l e. object_later old new l.ty grown.grows (sound.locals_there n l e);
  functions = refl;
  structs = refl;
  shows = λ k n e. inr e;
  keeps = λ k n e. (λ none. none, e);
  means = λ k n e. e;
  texts = refl;
  size = refl;
}

pub sound_now : (v : Visible) (scope : Scope) (old new : Types) → IsSound v scope old → IsGrown old new → IsSound v scope new
sound_now v scope old new sound grown = sound_behind v v scope scope old new sound (table_moves v scope old new sound grown) sound.declared

-- .. and then a step is taken
pub moves_after : (v : Visible) (names : List NameId) (a b : Scope) (s t u : Types) → IsSound v a s → IsGrown s t → Moves names a b t u → Moves names a b s u
moves_after v names a b s t u sound grown m = moves_on [] names a a b s t u (table_moves v a s t sound grown) m

-- what the program has in the end was there before the table grew
pub final_then : (p : ProgramForm) (locals : List TypedLocal) (scope : Scope) (s t : Types) → IsGrown s t → IsFinal p locals scope t → IsFinal p locals scope s
final_then p locals scope s t grown final = record { grown = grows_on s t p.types grown.grows final.grown; kept = final.kept; functions = final.functions }

-- .. and before a step
pub final_before : (p : ProgramForm) (locals : List TypedLocal) (names : List NameId) (a b : Scope) (s t : Types) → Moves names a b s t → IsFinal p locals b t → IsFinal p locals a s
final_before p locals names a b s t m final = record {
  grown = grows_on s t p.types m.grown.grows final.grown;
  kept = λ n l e. final.kept n l (m.locals n l e);
  functions = λ n f e. final.functions n f (subst (λ (fs : List SignatureView). slice_get fs n ≡ Some f) (sym m.functions) e);
}

-- .. also where names are forgotten
pub final_remembered : (p : ProgramForm) (locals : List TypedLocal) (names : List NameId) (scope : Scope) (types : Types) → IsFinal p locals (forgotten names scope) types → IsFinal p locals scope types
final_remembered p locals names scope types final = record {
  grown = final.grown;
  kept = λ n l e. final.kept n l (subst (λ (ls : List TypedLocal). slice_get ls n ≡ Some l) (sym (forgotten_locals names scope)) e);
  functions = λ n f e. final.functions n f (subst (λ (fs : List SignatureView). slice_get fs n ≡ Some f) (sym (forgotten_functions names scope)) e);
}

-- ---- a variable is declared

abbrev pub behind_declared : TypedLocal → Scope → Scope
behind_declared l scope = seen_as l.name (entity.Local (length scope.locals)) (with_local l scope)

pub record IsDeclared (l : TypedLocal) (scope : Scope) (x : ℕ × Scope) : Type 0 where
  pub number : x.0 ≡ length scope.locals
  pub behind : x.1 ≡ behind_declared l scope

pub declared_is : (l : TypedLocal) (scope : Scope) (x : ℕ × Scope) → declared l scope ≡ Ok x → IsDeclared l scope x
declared_is l scope x e = go (nat_lt (length scope.locals) (2 ^ 32 - 1)) e
  where
    go : (b : Bool) → ◌≡◌ {A = Result (ℕ × Scope) Ill} (if b then Ok (length scope.locals, behind_declared l scope) else Err (record { kind = kinds.Unsupported; place = l.place })) (Ok x) → IsDeclared l scope x
    go true e =
        let same : ◌≡◌ {A = ℕ × Scope} (length scope.locals, behind_declared l scope) x = cc in
        record { number = ap (λ (y : ℕ × Scope). y.0) (sym same); behind = ap (λ (y : ℕ × Scope). y.1) (sym same) }
    go false e = absurd (cc)

declared_locals : (l : TypedLocal) (v : Visible) (scope : Scope) (types : Types) → IsSound v scope types → IsObject types l.ty
    → (n : ℕ) (x : TypedLocal) → slice_get (scope.locals ++ l ∷ []) n ≡ Some x → IsObject types x.ty
declared_locals l v scope types sound there n x e = ⊎_elim (λ old. sound.locals_there n x old) (λ new. there_as new.1) (in_more scope.locals l n x e)
  where
    there_as : l ≡ x → IsObject types x.ty
    there_as same = subst (λ (y : TypedLocal). IsObject types y.ty) same there

-- it moves on by one name
pub declared_moves : (l : TypedLocal) (v : Visible) (scope : Scope) (types : Types) → IsSound v scope types → IsObject types l.ty → IsFree l.name scope
    → Moves (l.name ∷ []) scope (behind_declared l scope) types types
declared_moves l v scope types sound there free = record {
  grown = grown_not types sound.ordered;
  locals = λ n x e. stays_in scope.locals (l ∷ []) n x e;
  locals_there = declared_locals l v scope types sound there;
  functions = refl;
  structs = refl;
  shows = λ k n e. ⊎_elim (λ here. inl (inl here.0)) (λ old. inr old) (set_other scope.visible l.name.0 k (entity.Local (length scope.locals)) (entity.Local n) e);
  keeps = λ k n e. (λ among. ⊎_elim (λ here. taken k n here e) (λ none. none) among, set_else scope.visible l.name.0 k (entity.Local (length scope.locals)) (λ here. taken k n here e) ∙ e);
  means = λ k n e. ⊎_elim (λ here. absurd (other n here.1)) (λ old. old) (set_other scope.visible l.name.0 k (entity.Local (length scope.locals)) (entity.Function n) e);
  texts = refl;
  size = set_length scope.visible l.name.0 (entity.Local (length scope.locals));
}
  where
    other : (n : ℕ) → entity.Local (length scope.locals) ≡ entity.Function n → ⊥
    other n e = cc

    taken : (k n : ℕ) → l.name.0 ≡ k → slice_get scope.visible k ≡ Some (entity.Function n) → ⊥
    taken k n here e = free n (subst (λ (i : ℕ). slice_get scope.visible i ≡ Some (entity.Function n)) (sym here) e)

pub declared_sound : (l : TypedLocal) (v : Visible) (scope : Scope) (types : Types) → IsSound v scope types → IsObject types l.ty → IsSound (with_next v) (behind_declared l scope) types
declared_sound l v scope types sound there = record {
  ordered = sound.ordered;
  based = sound.based;
  structs_there = sound.structs_there;
  structs_count = sound.structs_count;
  locals_there = declared_locals l v scope types sound there;
  results_there = sound.results_there;
  parameters_there = sound.parameters_there;
  declared = simp length-append (omega (arith, sound.declared));
  visible = λ k n e. ⊎_elim (λ here. new n here.1) (λ old. Contains-append_left v.visible (v.declared ∷ []) n (sound.visible k n old))
      (set_other scope.visible l.name.0 k (entity.Local (length scope.locals)) (entity.Local n) e);
}
  where
    new : (n : ℕ) → entity.Local (length scope.locals) ≡ entity.Local n → Contains (v.visible ++ v.declared ∷ []) n
    new n e =
        let same : length scope.locals ≡ n = cc in
        subst (Contains (v.visible ++ v.declared ∷ [])) (sym sound.declared ∙ same) (Contains-append_right v.visible (v.declared ∷ []) v.declared (0, omega arith, refl))

-- its number is its place in the list
pub declared_there : (l : TypedLocal) (scope : Scope) → slice_get (behind_declared l scope).locals (length scope.locals) ≡ Some l
declared_there l scope = last_in scope.locals l
