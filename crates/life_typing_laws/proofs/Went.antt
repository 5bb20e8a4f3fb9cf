-- A whole function: what is known behind it.
use Rattle.std.proofs.Common.{◌≡◌, ◌⊎◌, inl, inr, ⊎_elim, ℕ, suc, ◌≤◌, Bool, true, false, Option, None, Some, Ok, List, [], ◌∷◌, length, map, slice_get, slice_set, take, refl, sym, ap, subst, ◌∙◌, arith}
use Rattle.std.proofs.lemmas.List.{length-map}
use Rattle.life_types.specs.TypeTests.{is_void}
use Rattle.life_types.specs.Types.{Types, HasType}
use Rattle.life_types.specs.declared.ty.NameId.{NameId}
use Rattle.life_types.specs.declared.ty.Ty.{Ty}
use Rattle.life_types.specs.declared.ty.TyId.{TyId}
use Rattle.life_tree.specs.declared.function.Function.{Function}
use Rattle.life_tree.specs.declared.function.FunctionBody.{FunctionBody}
use Rattle.life_tree.specs.declared.function.FunctionBody.TheVariants as function_body
use Rattle.life_tree.specs.declared.function.Parameter.{Parameter}
use Rattle.life_tree.specs.declared.stmt.Block.{Block}
use Rattle.life_typed.specs.BaseTypes.{type_at}
use Rattle.life_typed.specs.Ends.{ends}
use Rattle.life_typed.specs.Programs as programs
use Rattle.life_typed.specs.Programs.{FunctionForm, ProgramForm}
use Rattle.life_typed.specs.TypedStatement.{StmtForm, block}
use Rattle.life_typed.specs.declared.typed_program.TypedLocal.{TypedLocal}
use Rattle.life_names.specs.Environment.{Scope, SignatureView, StructureView, forgotten, seen_as, without_locals}
use Rattle.life_names.specs.declared.environment.Entity.TheVariants as entity
use Rattle.life_type_stmt.specs.Bodies.{body, return_fault}
use Rattle.life_typing.specs.Functions.{PartsView, behind_header, behind_header_as, body_kept, changed_at, with_function, with_parameters_forgotten}
use Rattle.life_typing.specs.Names.{DeclaredView, has_body, is_main}
use Rattle.life_typing.specs.Parameters.{parameters_forgotten}
use Rattle.life_typing.specs.Progress.{ProgressView}
use Rattle.life_well_typed.specs.Expressions.{parameter_types, type_of}
use Rattle.life_well_typed.specs.Functions.{IsBody, IsWellTypedFunction}
use Rattle.life_well_typed.specs.Results.{HaveMembers}
use Rattle.life_well_typed.specs.Statements.{IsStatement}
use Rattle.life_well_typed.specs.Visible.{Visible, after, with_parameters}
use Rattle.life_typing_laws.proofs.Declaring.{function_is, parts}
use Rattle.life_typing_laws.proofs.Bodies.{around_body, body_block, body_ends, body_part}
use Rattle.life_typing_laws.proofs.Entered.{Entered, IsBegun, enters}
use Rattle.life_typing_laws.proofs.Growing.{same_type_at, stays_there}
use Rattle.life_typing_laws.proofs.Known.{AreKnown, HasInEnd, KnownAt, known_changed, known_grown, same_or_not}
use Rattle.life_typing_laws.proofs.FunctionNames.{AreNamed, NamedAt, named_changed}
use Rattle.life_typing_laws.proofs.Parameters.{names_of}
use Rattle.life_typing_laws.proofs.Scopes.{IsIn, forgotten_functions, forgotten_keeps, forgotten_locals, forgotten_means, forgotten_meant, forgotten_size, forgotten_structs, forgotten_texts, set_else, set_there}
use Rattle.life_typing_laws.proofs.Statements.{IsPart, is_block}
use Rattle.life_typing_laws.proofs.Steps.{answered, same_some, same_answer, not_both}
use Rattle.life_typing_laws.proofs.Visible.{IsUnderway}
use Rattle.life_typing_laws.specs.Sound.{IsSound, Keeps}

-- ---- behind it no parameter and no variable is visible

pub forgotten_are : (ps : List Parameter) (scope : Scope) → parameters_forgotten ps scope ≡ forgotten (names_of ps) scope
forgotten_are [] scope = refl
forgotten_are (q ∷ ps) scope = forgotten_are ps (seen_as q.name.id entity.Unseen scope)

abbrev ended : List NameId → Scope → Scope
ended names scope = forgotten names (without_locals scope)

ended_sound : (names : List NameId) (v : Visible) (scope : Scope) (types : Types) → IsSound v scope types → ((k n : ℕ) → slice_get scope.visible k ≡ Some (entity.Local n) → IsIn names k)
    → IsSound (with_parameters 0) (ended names scope) types
ended_sound names v scope types sound shows = record {
  ordered = sound.ordered;
  based = sound.based;
  structs_there = λ n s e. sound.structs_there n s (subst (λ (ss : List StructureView). slice_get ss n ≡ Some s) (forgotten_structs names (without_locals scope)) e);
  structs_count = sound.structs_count ∙ ap length (sym (forgotten_structs names (without_locals scope)));
  locals_there = λ n l e. absurd (never n l (subst (λ (ls : List TypedLocal). slice_get ls n ≡ Some l) (forgotten_locals names (without_locals scope)) e));
  results_there = λ n s e. sound.results_there n s (subst (λ (fs : List SignatureView). slice_get fs n ≡ Some s) (forgotten_functions names (without_locals scope)) e);
  parameters_there = λ n s e. sound.parameters_there n s (subst (λ (fs : List SignatureView). slice_get fs n ≡ Some s) (forgotten_functions names (without_locals scope)) e);
  declared = ap length (forgotten_locals names (without_locals scope));
  visible = λ k n e. let found = forgotten_means names (without_locals scope) k n e in absurd (found.0 (shows k n found.1));
}
  where
    never : (n : ℕ) (l : TypedLocal) → slice_get [] n ≡ Some l → ⊥
    never n l e = cc

-- ---- lists in which what stood at a number stays there begin the same

first_kept : {A : Type 0} (x y : A) (xs ys : List A) → Keeps (x ∷ xs) (y ∷ ys) → y ≡ x
first_kept x y xs ys keeps = same_some y x (keeps 0 x refl)

none_kept : {A : Type 0} (x : A) (xs : List A) → Keeps (x ∷ xs) [] → ⊥
none_kept x xs keeps = never (keeps 0 x refl)
  where
    never : slice_get [] 0 ≡ Some x → ⊥
    never e = cc

kept_front : {A : Type 0} (xs ys : List A) → Keeps xs ys → take (length xs) ys ≡ xs
kept_front [] ys keeps = refl
kept_front (x ∷ xs) [] keeps = absurd (none_kept x xs keeps)
kept_front (x ∷ xs) (y ∷ ys) keeps = ap (λ z. z ∷ take (length xs) ys) (first_kept x y xs ys keeps) ∙ ap (λ zs. x ∷ zs) (kept_front xs ys (λ n z e. keeps (suc n) z e))

kept_count : {A : Type 0} (xs ys : List A) → Keeps xs ys → length xs ≤ length ys
kept_count [] ys keeps = omega arith
kept_count (x ∷ xs) [] keeps = absurd (none_kept x xs keeps)
kept_count (x ∷ xs) (y ∷ ys) keeps = let rest : length xs ≤ length ys = kept_count xs ys (λ n z e. keeps (suc n) z e) in omega (arith, rest)

-- ---- what holds behind a function

pub record Went (bodies : List Bool) (f : Function) (p q : ProgressView) : Type 0 where
  pub under : IsUnderway bodies q
  pub number : ℕ
  pub texts : q.scope.names ≡ p.scope.names
  pub keeps : (k n : ℕ) → slice_get p.scope.visible k ≡ Some (entity.Function n) → slice_get q.scope.visible k ≡ Some (entity.Function n)
  pub named : slice_get q.scope.visible f.name.id.0 ≡ Some (entity.Function number)
  pub noted : has_body f.body ≡ true → (d : DeclaredView) → slice_get q.declared number ≡ Some d → d.has_body ≡ true
  pub came : (m : ℕ) (d : DeclaredView) → slice_get q.declared m ≡ Some d → d.has_body ≡ false → (slice_get p.declared m ≡ Some d) ⊎ (IsBegun bodies f p number m × (has_body f.body ≡ false))

module _ (bodies : List Bool) (f : Function) (p : ProgressView) (h : PartsView) (y : ℕ × ProgressView) (entered : Entered bodies f p h y) where
  abbrev names : List NameId
  names = names_of f.parameters.items

  -- what is visible behind it, from what is visible behind its body
  shut : (scope : Scope) (types : Types) (forms : List FunctionForm) (ds : List DeclaredView) (v : Visible) → IsSound v scope types → AreKnown scope.names types scope.functions forms ds
      → AreNamed scope forms → ((k n : ℕ) → slice_get scope.visible k ≡ Some (entity.Local n) → IsIn names k) → length scope.visible ≡ length bodies → types.structs ≡ y.1.types.structs
      → IsUnderway bodies (record y.1 { scope = ended names scope; types = types; functions = forms; declared = ds })
  shut scope types forms ds v sound known named shows size structs = record {
    sound = ended_sound names v scope types sound shows;
    known = subst (λ (ns : List (List ℕ)). AreKnown ns types (ended names scope).functions forms ds) (sym (forgotten_texts names (without_locals scope)))
        (subst (λ (fs : List SignatureView). AreKnown scope.names types fs forms ds) (sym (forgotten_functions names (without_locals scope))) known);
    named = λ k n e. named k n (forgotten_meant names (without_locals scope) k n e);
    size = forgotten_size names (without_locals scope) ∙ size;
    structs = subst (HaveMembers y.1.structs) (sym structs) entered.structs;
  }

  -- a name that means a function behind the body means it behind the function too
  stays : (scope : Scope) (k n : ℕ) → (IsIn names k → ⊥) → slice_get scope.visible k ≡ Some (entity.Function n) → slice_get (ended names scope).visible k ≡ Some (entity.Function n)
  stays scope k n none e = forgotten_keeps names (without_locals scope) k none ∙ e

  -- ---- without a body

  declared_went : has_body f.body ≡ false → Went bodies f p (record y.1 { scope = ended names y.1.scope })
  declared_went bodiless = record {
    under = shut y.1.scope y.1.types y.1.functions y.1.declared (with_parameters (length f.parameters.items)) entered.sound entered.known entered.forms entered.shows entered.size refl;
    number = y.0;
    texts = forgotten_texts names (without_locals y.1.scope) ∙ entered.texts;
    keeps = λ k n e. let kept = entered.keeps k n e in stays y.1.scope k n kept.0 kept.1;
    named = stays y.1.scope f.name.id.0 y.0 entered.named.0 entered.named.1;
    noted = λ bodied d e. not_both (has_body f.body) bodied bodiless;
    came = λ m d e none. ⊎_elim (λ old. inl old) (λ begun. inr (begun, bodiless)) (entered.came m d e);
  }

  -- ---- with a body

  at : KnownAt y.1.scope.names y.1.types y.1.scope.functions y.1.functions y.1.declared y.0 entered.s
  at = entered.known.each y.0 entered.s entered.there

  abbrev with_body : (StmtForm × Scope) × Types → FunctionForm
  with_body w = record at.form { place = f.name.place; locals = w.0.1.locals; body = w.0.0 }

  abbrev noted : DeclaredView
  noted = record at.declared { has_body = true }

  abbrev behind_body : (StmtForm × Scope) × Types → ProgressView
  behind_body w = record y.1 { scope = ended names w.0.1; types = w.1; functions = slice_set y.1.functions y.0 (with_body w); declared = slice_set y.1.declared y.0 noted }

  -- whether it is `main`
  abbrev main : Bool
  main = is_main y.1.scope f.name.id

  module _ (b : Block) (w : (StmtForm × Scope) × Types) (checked : body h.returned main b y.1.scope y.1.types ≡ Ok w) where
    abbrev form : FunctionForm
    form = with_body w

    abbrev v : Visible
    v = with_parameters (length f.parameters.items)

    part : IsPart [] (around_body h.returned) v y.1.scope y.1.types w
    part = body_part h.returned main b v y.1.scope y.1.types w checked entered.sound entered.result_there

    -- the parameters are its first locals
    locals_count : length at.form.parameters ≡ length y.1.scope.locals
    locals_count = at.is.promises ∙ ap length (sym entered.parameters) ∙ ap length (sym entered.locals) ∙ length-map y.1.scope.locals type_of

    front : take (length at.form.parameters) w.0.1.locals ≡ y.1.scope.locals
    front = subst (λ (n : ℕ). take n w.0.1.locals ≡ y.1.scope.locals) (sym locals_count) (kept_front y.1.scope.locals w.0.1.locals part.moves.locals)

    types_are : parameter_types (Some form) ≡ entered.s.parameters
    types_are = ap (map type_of) front ∙ entered.locals ∙ entered.parameters

    promises_count : length f.parameters.items ≡ length at.form.parameters
    promises_count = sym entered.count ∙ ap length entered.parameters ∙ sym at.is.promises

    result_is : h.returned ≡ at.form.result
    result_is = entered.result ∙ sym at.is.result

    module _ (P : ProgramForm) where
      block_is : (s : StmtForm) → is_block s ≡ true → IsStatement P w.0.1.locals at.form.result s false (with_parameters (length at.form.parameters)) → IsBody P form s
      block_is (block items closing) is typed = typed
      block_is _ is typed = absurd (cc)

      -- it has the name that it is read under
      name_is : at.form.name.0 ≡ f.name.id.0
      name_is =
          let named : NamedAt y.1.functions y.0 f.name.id.0 = entered.forms f.name.id.0 y.0 entered.named.1 in
          ap (λ (g : FunctionForm). g.name.0) (same_some at.form named.form (sym at.form_there ∙ named.there)) ∙ named.name

      main_is : P.names ≡ w.0.1.names → programs.is_main P.names at.form.name ≡ main
      main_is texts = ap (λ (ns : List (List ℕ)). programs.is_main ns at.form.name) (texts ∙ part.moves.texts) ∙ ap (λ (k : ℕ). programs.is_main y.1.scope.names (record { 0 = k })) name_is

      -- no return is missing at its end
      ends_as : HasInEnd P w.0.1.names w.1 w.0.1.functions → return_fault (programs.is_main P.names at.form.name) (is_void (type_at P.types at.form.result)) (ends w.0.0) ≡ None
      ends_as final =
          let there : HasType w.1 h.returned = stays_there y.1.types w.1 h.returned part.moves.grown.grows entered.result_there in
          subst (λ (m : Bool). return_fault m (is_void (type_at P.types at.form.result)) (ends w.0.0) ≡ None) (sym (main_is final.named))
          (subst (λ (t : TyId). return_fault main (is_void (type_at P.types t)) (ends w.0.0) ≡ None) result_is
          (subst (λ (t : Ty). return_fault main (is_void t) (ends w.0.0) ≡ None) (sym (same_type_at w.1 P.types h.returned final.grown there))
          (body_ends h.returned main b y.1.scope y.1.types w checked)))

      well_typed : HasInEnd P w.0.1.names w.1 w.0.1.functions → IsWellTypedFunction P form
      well_typed final = record {
        parameters = subst (λ (n : ℕ). n ≤ length w.0.1.locals) (sym locals_count) (kept_count y.1.scope.locals w.0.1.locals part.moves.locals);
        promise = at.is.promise;
        body = block_is w.0.0 (body_block h.returned main b y.1.scope y.1.types w checked)
            (subst (λ (t : TyId). IsStatement P w.0.1.locals t w.0.0 false (with_parameters (length at.form.parameters))) result_is
            (subst (λ (n : ℕ). IsStatement P w.0.1.locals h.returned w.0.0 false (with_parameters n)) promises_count
            (part.is P w.0.1.locals (record { grown = final.grown; kept = λ n l e. e; functions = final.functions }))));
        ending = ends_as final;
      }

    known_behind : AreKnown w.0.1.names w.1 w.0.1.functions (slice_set y.1.functions y.0 form) (slice_set y.1.declared y.0 noted)
    known_behind = known_changed w.0.1.names w.1 w.0.1.functions y.1.functions y.1.declared grown y.0 form at.form noted at.declared entered.s at.form_there at.declared_there
        (subst (λ (fs : List SignatureView). slice_get fs y.0 ≡ Some entered.s) (sym part.moves.functions) entered.there)
        (record {
          result = at.is.result;
          promises = at.is.promises;
          promise = at.is.promise;
          said = at.is.said;
          main = λ is. at.is.main (ap (λ (ns : List (List ℕ)). programs.is_main ns at.form.name) (sym part.moves.texts) ∙ is);
          body = λ has. record { parameters = types_are; is = well_typed; variables = part.moves.locals_there };
        })
      where
        grown : AreKnown w.0.1.names w.1 w.0.1.functions y.1.functions y.1.declared
        grown = subst (λ (ns : List (List ℕ)). AreKnown ns w.1 w.0.1.functions y.1.functions y.1.declared) (sym part.moves.texts)
            (subst (λ (fs : List SignatureView). AreKnown y.1.scope.names w.1 fs y.1.functions y.1.declared) (sym part.moves.functions)
            (known_grown y.1.scope.names y.1.types w.1 y.1.scope.functions y.1.functions y.1.declared part.moves.grown.grows entered.known))

    bodied_went : has_body f.body ≡ true → Went bodies f p (behind_body w)
    bodied_went bodied = record {
      under = shut w.0.1 w.1 (slice_set y.1.functions y.0 form) (slice_set y.1.declared y.0 noted) (after w.0.0 v) part.sound known_behind
          (named_changed w.0.1 y.1.functions y.0 at.form form at.form_there refl (λ k n e. entered.forms k n (part.moves.means k n e)))
          (λ k n e. ⊎_elim (λ none. absurd none) (λ old. entered.shows k n old) (part.moves.shows k n e)) (part.moves.size ∙ entered.size) part.moves.grown.structs;
      number = y.0;
      texts = forgotten_texts names (without_locals w.0.1) ∙ part.moves.texts ∙ entered.texts;
      keeps = λ k n e. let kept = entered.keeps k n e in stays w.0.1 k n kept.0 (part.moves.keeps k n kept.1).1;
      named = stays w.0.1 f.name.id.0 y.0 entered.named.0 (part.moves.keeps f.name.id.0 y.0 entered.named.1).1;
      noted = λ _ d e. ap (λ (c : DeclaredView). c.has_body) (sym (same_some noted d (sym noted_there ∙ e)));
      came = λ m d e none. ⊎_elim (λ same. not_both d.has_body (is_noted m d same e) none) (λ other. older m d (sym (set_else y.1.declared y.0 m noted other) ∙ e) other) (same_or_not y.0 m);
    }
      where
        noted_there : slice_get (slice_set y.1.declared y.0 noted) y.0 ≡ Some noted
        noted_there = set_there y.1.declared y.0 at.declared noted at.declared_there

        is_noted : (m : ℕ) (d : DeclaredView) → y.0 ≡ m → slice_get (slice_set y.1.declared y.0 noted) m ≡ Some d → d.has_body ≡ true
        is_noted m d same e =
            let there : slice_get (slice_set y.1.declared y.0 noted) m ≡ Some noted = subst (λ (i : ℕ). slice_get (slice_set y.1.declared y.0 noted) i ≡ Some noted) same noted_there in
            ap (λ (c : DeclaredView). c.has_body) (sym (same_some noted d (sym there ∙ e)))

        older : (m : ℕ) (d : DeclaredView) → slice_get y.1.declared m ≡ Some d → (y.0 ≡ m → ⊥) → (slice_get p.declared m ≡ Some d) ⊎ (IsBegun bodies f p y.0 m × (has_body f.body ≡ false))
        older m d e other = ⊎_elim (λ old. inl old) (λ begun. absurd (other (sym begun.is))) (entered.came m d e)

-- ---- the whole step

module _ (bodies : List Bool) (f : Function) (p q : ProgressView) (h : PartsView) (y : ℕ × ProgressView) (entered : Entered bodies f p h y) (z : ProgressView)
    (same : with_parameters_forgotten f z ≡ q) where
  -- what is changed at the function's number
  abbrev changed_form : (StmtForm × Scope) × Types → FunctionForm → FunctionForm
  changed_form w g = record g { place = f.name.place; locals = w.0.1.locals; body = w.0.0 }

  abbrev changed_note : DeclaredView → DeclaredView
  changed_note d = record d { has_body = true }

  abbrev built : (StmtForm × Scope) × Types → Scope → List FunctionForm → List DeclaredView → ProgressView
  built w scope forms ds = record y.1 { scope = scope; types = w.1; functions = forms; declared = ds }

  module _ (w : (StmtForm × Scope) × Types) (kept : body_kept f y.0 y.1 w.0.0 w.0.1 w.1 ≡ z) where
    abbrev k : KnownAt y.1.scope.names y.1.types y.1.scope.functions y.1.functions y.1.declared y.0 entered.s
    k = at bodies f p h y entered

    -- that is what is behind the body
    behind_it : behind_body bodies f p h y entered w ≡ q
    behind_it =
        ap (λ (s : Scope). built w s (slice_set y.1.functions y.0 (changed_form w k.form)) (slice_set y.1.declared y.0 (changed_note k.declared))) (sym (forgotten_are f.parameters.items (without_locals w.0.1)))
        ∙ ap (λ (o : Option FunctionForm). built w (parameters_forgotten f.parameters.items (without_locals w.0.1)) (changed_at y.0 (changed_form w) y.1.functions o) (slice_set y.1.declared y.0 (changed_note k.declared)))
        (sym k.form_there)
        ∙ ap (λ (o : Option DeclaredView). built w (parameters_forgotten f.parameters.items (without_locals w.0.1)) (changed_at y.0 (changed_form w) y.1.functions (slice_get y.1.functions y.0)) (changed_at y.0 changed_note y.1.declared o))
        (sym k.declared_there)
        ∙ ap (λ (u : ProgressView). with_parameters_forgotten f u) kept
        ∙ same

  behind_header_went : behind_header f y.0 h.returned y.1 ≡ Ok z → Went bodies f p q
  behind_header_went e = go f.body refl e
    where
      go : (c : FunctionBody) → f.body ≡ c → behind_header_as c f y.0 h.returned y.1 ≡ Ok z → Went bodies f p q
      go (function_body.Declared place) is e =
          subst (Went bodies f p)
          (ap (λ (s : Scope). record y.1 { scope = s }) (sym (forgotten_are f.parameters.items (without_locals y.1.scope)))
          ∙ ap (λ (u : ProgressView). with_parameters_forgotten f u) (same_answer (record y.1 { scope = without_locals y.1.scope }) z e) ∙ same)
          (declared_went bodies f p h y entered (ap (λ (c : FunctionBody). has_body c) is))
      go (function_body.Block b) is e =
          let step = answered (body h.returned (is_main y.1.scope f.name.id) b y.1.scope y.1.types) (λ x. Ok (body_kept f y.0 y.1 (x.0).0 (x.0).1 x.1)) z e in
          let kept = same_answer (body_kept f y.0 y.1 step.value.0.0 step.value.0.1 step.value.1) z step.behind in
          subst (Went bodies f p) (behind_it step.value kept)
          (bodied_went bodies f p h y entered b step.value step.gave (ap (λ (c : FunctionBody). has_body c) is))

-- so a function that is read leaves all as it should be
pub function_went : (bodies : List Bool) (f : Function) (p q : ProgressView) → IsUnderway bodies p → with_function bodies f p ≡ Ok q → Went bodies f p q
function_went bodies f p q under e =
    let it = function_is bodies f p q e in
    behind_header_went bodies f p q (parts it.h) it.y (enters bodies f p under it.x it.h it.y it.declared) it.z it.is it.behind
