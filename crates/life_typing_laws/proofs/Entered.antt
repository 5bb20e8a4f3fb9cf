-- A function is declared, for the first time or again: what is known then, before its body is read.
use Rattle.std.proofs.Common.{◌≡◌, ◌⊎◌, inl, inr, ⊎_elim, ℕ, zero, suc, Bool, true, false, Option, Some, None, Ok, List, [], ◌∷◌, ◌++◌, length, map, slice_get, take, refl, sym, ap, subst, ◌∙◌, arith, rules}
use Rattle.std.specs.Prelude.{unwrap_or}
use Rattle.std.specs.Cmp.Lexicographic.{pointwise}
use Rattle.std.specs.List.{starts_with}
use Rattle.std.proofs.lemmas.Bool.{and_parts}
use Rattle.std.proofs.lemmas.Option.{slice_get_within}
use Rattle.life_types.specs.Types.{Types, HasType, HasTypes}
use Rattle.life_types.specs.contracts.ty.TyIdPartialEq.TheImpl.{ghosts as ids}
use Rattle.life_types.specs.declared.ty.NameId.{NameId}
use Rattle.life_types.specs.declared.ty.TyId.{TyId}
use Rattle.life_types.proofs.TreeLemmas.{IsThere, in_more, last_in, stays_in, within}
use Rattle.life_tree.specs.declared.function.Function.{Function}
use Rattle.life_typed.specs.declared.basic.TheConstants.{INT}
use Rattle.life_names.specs.Environment.{Scope, SignatureView, meaning, seen_as, with_function}
use Rattle.life_names.specs.declared.environment.Entity.{Entity}
use Rattle.life_names.specs.declared.environment.Entity.TheVariants as entity
use Rattle.life_typing.specs.Functions.{PartsView, without_body}
use Rattle.life_typing.specs.Functions as functions
use Rattle.life_typing.specs.Headers.{function_seen, seen_unless}
use Rattle.life_typing.specs.Names.{DeclaredView, fits_main, gets_body, has_body, is_main, may_declare}
use Rattle.life_typing.specs.Progress.{ProgressView}
use Rattle.life_well_typed.specs.Expressions.{type_of}
use Rattle.life_well_typed.specs.Results.{HaveMembers}
use Rattle.life_well_typed.specs.Visible.{Visible, with_parameters}
use Rattle.life_typing_laws.proofs.Declaring.{AgreesAt, behind_first, by_way, main_fits, no_second, noted, parts, said, signature, with_header}
use Rattle.life_typing_laws.proofs.Headers.{HeaderIs}
use Rattle.life_typing_laws.proofs.Known.{AreKnown, KnownAt, known_grown, known_more, same_or_not}
use Rattle.life_typing_laws.proofs.FunctionNames.{AreNamed, NamedAt}
use Rattle.life_typing_laws.proofs.Parameters.{names_of}
use Rattle.life_typing_laws.proofs.Pieces.{CountIs, parameter_piece, pieces_count, same_count}
use Rattle.life_typing_laws.proofs.Promises.{promise_lists, promises_count}
use Rattle.life_typing_laws.proofs.Scopes.{IsFree, IsIn, KeepsFunctions, set_at, set_else, set_length, set_other, set_there}
use Rattle.life_typing_laws.proofs.Steps.{same_some, not_both}
use Rattle.life_typing_laws.proofs.Visible.{AreVisible, IsUnderway, header_visible, seen_sound}
use Rattle.life_typing_laws.specs.Sound.{IsSound}

-- types that agree are the same
same_id : (a b : TyId) → ids.eq a b ≡ true → a ≡ b
same_id a b e = search rules

same_ids : (xs ys : List TyId) → pointwise ids.eq xs ys ≡ true → xs ≡ ys
same_ids [] [] e = refl
same_ids [] (y ∷ ys) e = absurd (cc)
same_ids (x ∷ xs) [] e = absurd (cc)
same_ids (x ∷ xs) (y ∷ ys) e =
    let parts = and_parts (ids.eq x y) (pointwise ids.eq xs ys) e in
    ap (λ (z : TyId). z ∷ xs) (same_id x y parts.0) ∙ ap (λ (zs : List TyId). y ∷ zs) (same_ids xs ys parts.1)

take_whole : {A : Type 0} (xs : List A) (n : ℕ) → length xs ≡ n → take n xs ≡ xs
take_whole [] zero e = refl
take_whole [] (suc n) e = absurd (omega (arith, e))
take_whole (x ∷ xs) zero e = absurd (omega (arith, e))
take_whole (x ∷ xs) (suc n) e = let less : length xs ≡ n = omega (arith, e) in ap (λ ys. x ∷ ys) (take_whole xs n less)

same_front : (xs earlier : List TyId) → length earlier ≡ length xs → starts_with ids.eq earlier xs ≡ true → xs ≡ earlier
same_front xs earlier size e = same_ids xs earlier (subst (λ (ys : List TyId). pointwise ids.eq xs ys ≡ true) (take_whole earlier (length xs) size) e)

-- ---- what is known then

-- it has this number, and is declared for the first time
pub record IsBegun (bodies : List Bool) (f : Function) (p : ProgressView) (number m : ℕ) : Type 0 where
  pub is : m ≡ number
  pub flagged : slice_get bodies f.name.id.0 ≡ Some true
  pub free : IsFree f.name.id p.scope

pub record Entered (bodies : List Bool) (f : Function) (p : ProgressView) (h : PartsView) (y : ℕ × ProgressView) : Type 0 where
  pub s : SignatureView
  pub there : slice_get y.1.scope.functions y.0 ≡ Some s
  pub result : h.returned ≡ s.result
  pub parameters : h.parameters ≡ s.parameters
  pub result_there : HasType y.1.types h.returned
  pub sound : IsSound (with_parameters (length f.parameters.items)) y.1.scope y.1.types
  pub known : AreKnown y.1.scope.names y.1.types y.1.scope.functions y.1.functions y.1.declared
  pub forms : AreNamed y.1.scope y.1.functions
  pub texts : y.1.scope.names ≡ p.scope.names
  pub locals : map type_of y.1.scope.locals ≡ h.parameters
  pub count : length h.parameters ≡ length f.parameters.items
  pub shows : (k n : ℕ) → slice_get y.1.scope.visible k ≡ Some (entity.Local n) → IsIn (names_of f.parameters.items) k
  pub keeps : KeepsFunctions (names_of f.parameters.items) p.scope y.1.scope
  pub named : (IsIn (names_of f.parameters.items) f.name.id.0 → ⊥) × (slice_get y.1.scope.visible f.name.id.0 ≡ Some (entity.Function y.0))
  pub size : length y.1.scope.visible ≡ length bodies
  pub structs : HaveMembers y.1.structs y.1.types.structs
  pub free : has_body f.body ≡ true → (d : DeclaredView) → slice_get y.1.declared y.0 ≡ Some d → d.has_body ≡ false
  pub came : (m : ℕ) (d : DeclaredView) → slice_get y.1.declared m ≡ Some d → (slice_get p.declared m ≡ Some d) ⊎ IsBegun bodies f p y.0 m

-- ---- again

-- a name that means something means it
means : (scope : Scope) (name : NameId) (number : ℕ) → meaning scope name ≡ entity.Function number → slice_get scope.visible name.0 ≡ Some (entity.Function number)
means scope name number e = of (slice_get scope.visible name.0) e
  where
    of : (o : Option Entity) → unwrap_or o entity.Unseen ≡ entity.Function number → o ≡ Some (entity.Function number)
    of None e = absurd (cc)
    of (Some m) e = ap (λ (z : Entity). Some z) e

-- ---- what the first declaration of a function adds

signature_sound : (s : SignatureView) (v : Visible) (scope : Scope) (types : Types) → IsSound v scope types → HasType types s.result → HasTypes types s.parameters → IsSound v (with_function s scope) types
signature_sound s v scope types sound result parameters = record {
  ordered = sound.ordered;
  based = sound.based;
  structs_there = sound.structs_there;
  structs_count = sound.structs_count;
  locals_there = sound.locals_there;
  results_there = λ n t e. ⊎_elim (λ old. sound.results_there n t old) (λ new. subst (λ (u : SignatureView). HasType types u.result) new.1 result) (in_more scope.functions s n t e);
  parameters_there = λ n t e. ⊎_elim (λ old. sound.parameters_there n t old) (λ new. subst (λ (u : SignatureView). HasTypes types u.parameters) new.1 parameters) (in_more scope.functions s n t e);
  declared = sound.declared;
  visible = sound.visible;
}

unseen_free : (name : NameId) (scope : Scope) → meaning scope name ≡ entity.Unseen → IsFree name scope
unseen_free name scope unseen n there = never (rw there at unseen)
  where
    never : entity.Function n ≡ entity.Unseen → ⊥
    never h = cc

module _ (bodies : List Bool) (f : Function) (p : ProgressView) (under : IsUnderway bodies p) (x : PartsView × ProgressView) (h : HeaderIs bodies (meaning p.scope f.name.id) f p x) where
  visible : AreVisible f p h.returned h.known h.types h.scope
  visible = header_visible bodies (meaning p.scope f.name.id) f p x h under

  -- all that are known are known over the grown table
  still_known : AreKnown h.scope.names h.types h.scope.functions p.functions p.declared
  still_known = subst (λ (ns : List (List ℕ)). AreKnown ns h.types h.scope.functions p.functions p.declared) (sym visible.texts)
      (subst (λ (fs : List SignatureView). AreKnown p.scope.names h.types fs p.functions p.declared) (sym visible.functions)
      (known_grown p.scope.names p.types h.types p.scope.functions p.functions p.declared visible.grows under.known))

  -- .. and no struct comes
  still_structs : HaveMembers p.structs h.types.structs
  still_structs = subst (HaveMembers p.structs) (sym visible.structs) under.structs

  again : (number : ℕ) → meaning p.scope f.name.id ≡ entity.Function number → AgreesAt h number → Entered bodies f p (parts h) (number, with_header h)
  again number is agree = made
    where
      k : KnownAt h.scope.names h.types h.scope.functions p.functions p.declared number agree.s
      k = still_known.each number agree.s agree.there

      counted : CountIs (parameter_piece f) agree.d.pieces (length agree.s.parameters)
      counted = subst (λ (d : DeclaredView). CountIs (parameter_piece f) d.pieces (length agree.s.parameters)) (same_some k.declared agree.d (sym k.declared_there ∙ agree.noted_there)) (k.is.said f)

      as_many : length agree.s.parameters ≡ length f.parameters.items
      as_many = same_count f (has_body f.body) agree.d (said h) (length agree.s.parameters) (length f.parameters.items) agree.says counted (pieces_count f h.scope f)

      both : (ids.eq agree.s.result h.returned.ty ≡ true) × (starts_with ids.eq agree.s.parameters h.known.types ≡ true)
      both = and_parts (ids.eq agree.s.result h.returned.ty) (starts_with ids.eq agree.s.parameters h.known.types) agree.types

      is_it : slice_get p.scope.visible f.name.id.0 ≡ Some (entity.Function number)
      is_it = means p.scope f.name.id number is

      unchanged : function_seen f p.scope ≡ p.scope
      unchanged = ap (λ (e : Entity). seen_unless e f p.scope) is

      keeps : KeepsFunctions (names_of f.parameters.items) p.scope h.scope
      keeps = subst (λ (s : Scope). KeepsFunctions (names_of f.parameters.items) s h.scope) unchanged visible.keeps

      made : Entered bodies f p (parts h) (number, with_header h)
      made = record {
        s = agree.s;
        there = agree.there;
        result = sym (same_id agree.s.result h.returned.ty both.0);
        parameters = same_front h.known.types agree.s.parameters (as_many ∙ sym visible.count) both.1;
        result_there = visible.result;
        sound = visible.sound;
        known = still_known;
        forms = λ m n e. under.named m n (subst (λ (s : Scope). slice_get s.visible m ≡ Some (entity.Function n)) unchanged (visible.means m n e));
        texts = visible.texts;
        locals = visible.ids;
        count = visible.count;
        shows = visible.shows;
        keeps = keeps;
        named = keeps f.name.id.0 number is_it;
        size = visible.size ∙ under.size;
        structs = still_structs;
        free = λ bodied d e. subst (λ (c : DeclaredView). c.has_body ≡ false) (same_some agree.d d (sym agree.noted_there ∙ e)) (no_second (said h) (has_body f.body) agree.d agree.says bodied);
        came = λ m d e. inl e;
      }

  -- ---- for the first time

  -- `main` gives back an int
  int_result : is_main h.scope f.name.id ≡ true → h.returned.ty ≡ INT
  int_result is =
      let fits = main_fits (may_declare h.scope p.declared (meaning p.scope f.name.id) h.returned.ty h.known.types (said h) (has_body f.body)) (is_main h.scope f.name.id) (fits_main h.returned.ty f.parameters.items)
      (gets_body bodies (meaning p.scope f.name.id) f.name.id) h.names is in
      same_id h.returned.ty INT (and_parts (ids.eq h.returned.ty INT) _ fits).0

  begun_known : AreKnown h.scope.names h.types (h.scope.functions ++ signature h ∷ []) (p.functions ++ without_body f h.returned.ty h.scope ∷ []) (p.declared ++ noted h ∷ [])
  begun_known = known_more h.scope.names h.types h.scope.functions p.functions p.declared still_known (without_body f h.returned.ty h.scope) (noted h) (signature h) (record {
    result = refl;
    promises = promises_count h.scope f.parameters.items ∙ sym visible.count;
    promise = promise_lists h.scope f.attributes.items f.parameters.items;
    said = λ g. subst (CountIs (parameter_piece g) (said h)) (sym visible.count) (pieces_count g h.scope f);
    main = int_result;
    body = λ has. not_both false has refl;
  })

  begun_sound : IsSound (with_parameters (length f.parameters.items)) (behind_first h).scope h.types
  begun_sound = seen_sound f.name.id (length h.scope.functions) (with_parameters (length f.parameters.items)) (with_function (signature h) h.scope) h.types
      (signature_sound (signature h) (with_parameters (length f.parameters.items)) h.scope h.types visible.sound visible.result visible.there)

  first_is : slice_get bodies f.name.id.0 ≡ Some true → meaning p.scope f.name.id ≡ entity.Unseen → Entered bodies f p (parts h) (length h.scope.functions, behind_first h)
  first_is flagged unseen = record {
    s = signature h;
    there = last_in h.scope.functions (signature h);
    result = refl;
    parameters = refl;
    result_there = visible.result;
    sound = begun_sound;
    known = begun_known;
    forms = λ k n e. ⊎_elim (λ same. newest k n same e) (λ different. older k n different e) (same_or_not f.name.id.0 k);
    texts = visible.texts;
    locals = visible.ids;
    count = visible.count;
    shows = λ k n e. ⊎_elim (λ here. absurd (never n here.1)) (λ old. visible.shows k n old)
        (set_other h.scope.visible f.name.id.0 k (entity.Function (length h.scope.functions)) (entity.Local n) e);
    keeps = λ k n e. let kept = visible.keeps k n (still k n e) in (kept.0, set_else h.scope.visible f.name.id.0 k (entity.Function (length h.scope.functions)) (other k n e) ∙ kept.1);
    named = (named.0, set_there h.scope.visible f.name.id.0 (entity.Function 0) (entity.Function (length h.scope.functions)) named.1);
    size = set_length h.scope.visible f.name.id.0 (entity.Function (length h.scope.functions)) ∙ visible.size ∙ under.size;
    structs = still_structs;
    free = λ bodied d e. ap (λ (c : DeclaredView). c.has_body) (sym (same_some (noted h) d (sym noted_last ∙ e)));
    came = λ m d e. ⊎_elim (λ old. inl old) (λ last. inr (record { is = last.0 ∙ still_known.declared_count; flagged = flagged; free = free })) (in_more p.declared (noted h) m d e);
  }
    where
      never : (n : ℕ) → entity.Function (length h.scope.functions) ≡ entity.Local n → ⊥
      never n e = cc

      free : IsFree f.name.id p.scope
      free = unseen_free f.name.id p.scope unseen

      other : (k n : ℕ) → slice_get p.scope.visible k ≡ Some (entity.Function n) → f.name.id.0 ≡ k → ⊥
      other k n e same = free n (subst (λ (i : ℕ). slice_get p.scope.visible i ≡ Some (entity.Function n)) (sym same) e)

      seen : function_seen f p.scope ≡ seen_as f.name.id (entity.Function 0) p.scope
      seen = ap (λ (e : Entity). seen_unless e f p.scope) unseen

      still : (k n : ℕ) → slice_get p.scope.visible k ≡ Some (entity.Function n) → slice_get (function_seen f p.scope).visible k ≡ Some (entity.Function n)
      still k n e =
          subst (λ (z : Scope). slice_get z.visible k ≡ Some (entity.Function n)) (sym seen) (set_else p.scope.visible f.name.id.0 k (entity.Function 0) (other k n e) ∙ e)

      there : IsThere p.scope.visible f.name.id.0
      there = within p.scope.visible f.name.id.0 (omega (arith, under.size, slice_get_within bodies f.name.id.0 true flagged))

      named : (IsIn (names_of f.parameters.items) f.name.id.0 → ⊥) × (slice_get h.scope.visible f.name.id.0 ≡ Some (entity.Function 0))
      named = visible.keeps f.name.id.0 0
          (subst (λ (z : Scope). slice_get z.visible f.name.id.0 ≡ Some (entity.Function 0)) (sym seen) (set_there p.scope.visible f.name.id.0 there.item (entity.Function 0) there.there))

      -- what means a function is its own name, or meant it before
      newest : (k n : ℕ) → f.name.id.0 ≡ k → slice_get (behind_first h).scope.visible k ≡ Some (entity.Function n) → NamedAt (p.functions ++ without_body f h.returned.ty h.scope ∷ []) n k
      newest k n same e =
          let is_it : entity.Function (length h.scope.functions) ≡ entity.Function n =
          set_at h.scope.visible f.name.id.0 (entity.Function (length h.scope.functions)) (entity.Function n) (subst (λ (i : ℕ). slice_get (behind_first h).scope.visible i ≡ Some (entity.Function n)) (sym same) e) in
          let number : length h.scope.functions ≡ n = cc in
          record {
            form = without_body f h.returned.ty h.scope;
            there = subst (λ (i : ℕ). slice_get (p.functions ++ without_body f h.returned.ty h.scope ∷ []) i ≡ Some (without_body f h.returned.ty h.scope)) (still_known.forms_count ∙ number)
                (last_in p.functions (without_body f h.returned.ty h.scope));
            name = same;
          }

      older : (k n : ℕ) → (f.name.id.0 ≡ k → ⊥) → slice_get (behind_first h).scope.visible k ≡ Some (entity.Function n) → NamedAt (p.functions ++ without_body f h.returned.ty h.scope ∷ []) n k
      older k n different e =
          let in_header = visible.means k n (sym (set_else h.scope.visible f.name.id.0 k (entity.Function (length h.scope.functions)) different) ∙ e) in
          let was = under.named k n
          (sym (set_else p.scope.visible f.name.id.0 k (entity.Function 0) different) ∙ subst (λ (z : Scope). slice_get z.visible k ≡ Some (entity.Function n)) seen in_header) in
          record { form = was.form; there = stays_in p.functions (without_body f h.returned.ty h.scope ∷ []) n was.form was.there; name = was.name }

      noted_last : slice_get (p.declared ++ noted h ∷ []) (length h.scope.functions) ≡ Some (noted h)
      noted_last = subst (λ (i : ℕ). slice_get (p.declared ++ noted h ∷ []) i ≡ Some (noted h)) still_known.declared_count (last_in p.declared (noted h))

  -- ---- either

  pub enters : (y : ℕ × ProgressView) → functions.declared (meaning p.scope f.name.id) f (parts h) (with_header h) ≡ Ok y → Entered bodies f p (parts h) y
  enters = by_way h (Entered bodies f p (parts h)) again first_is
