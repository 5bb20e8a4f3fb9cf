-- The core program of a well typed program: each of its functions is checked, among all of them, and has short places.
use Rattle.std.proofs.Common.{◌≡◌, ◌<◌, ℕ, zero, suc, Bool, true, false, ◌&&◌, List, [], ◌∷◌, ◌++◌, length, map, slice_get, take, Option, Some, None, option_map, refl, sym, ap, ◌∙◌, subst, arith, append_assoc, append-nil}
use Rattle.std.proofs.lemmas.Bool.{and_from, false≢true}
use Rattle.std.proofs.lemmas.Option.{none-some, same_Some, slice_get-map}
use Rattle.std.specs.List.{list_all}
use Rattle.life_types.specs.Pointees.{or_void, ty_of}
use Rattle.life_types.specs.TypeTests.{is_void}
use Rattle.life_types.specs.Types.{Types, class}
use Rattle.life_types.specs.declared.ty.Ty.{Ty}
use Rattle.life_types.specs.declared.ty.TyId.{TyId}
use Rattle.life_elab_laws.proofs.StatementKinds.{are_read_functions}
use Rattle.life_typed.specs.BaseTypes.{type_at}
use Rattle.life_typed.specs.Programs.{FunctionForm, ProgramForm, is_main}
use Rattle.life_core.specs.Function.{Function}
use Rattle.life_core.specs.declared.program.Local.{Local}
use Rattle.life_proper.specs.Checking.{checked, is_checked}
use Rattle.life_core_served.specs.ProperPrograms.{has_own_breaks, have_own_breaks}
use Rattle.life_pset.specs.Elements.{AreShort, elements_of}
use Rattle.life_well_typed.specs.Functions.{AreWellTyped, IsWellTyped, IsWellTypedFunction}
use Rattle.life_elab.specs.Bounds.{HaveShortPlaces}
use Rattle.life_elab.specs.Over.{over_function, over_functions, over_locals, over_parts}
use Rattle.life_elab_laws.proofs.PassedNone.{first_none}
use Rattle.life_elab.specs.Functions.{function_from}
use Rattle.life_elab.specs.ProgramForms.{all_functions, first_state, functions, translated, written}
use Rattle.life_elab.specs.Programs.{Functions, around, texts_of, with_function}
use Rattle.life_well_typed.specs.Mains.{HasIntMain, HaveIntMains}
use Rattle.life_well_typed.specs.Names.{HasNames, is_function_named}
use Rattle.life_well_typed.specs.Results.{HasResults, HaveResults}
use Rattle.life_elab_laws.proofs.Beginning.{first_locals, first_types, nothing_past}
use Rattle.life_elab_laws.proofs.Callees.{IsBegun, IsFunctionOf, callee_from, gives_from, parameter_at, read_parts, result_before, result_nameless, takes_handed, type_found}
use Rattle.life_elab_laws.proofs.Calls.{IsCallee}
use Rattle.life_elab_laws.proofs.ExpressionKinds.{function_built}
use Rattle.life_elab_laws.proofs.FormedLocals.{HasFormedHead, head_formed}
use Rattle.life_elab_laws.proofs.CopiedStructs.{copied_later}
use Rattle.life_elab_laws.proofs.Fronts.{IsFront, each_at, front_itself, front_then, passed_at}
use Rattle.life_elab_laws.proofs.FunctionWriting.{IsProperBody, function_finished, function_proper}
use Rattle.life_elab_laws.proofs.Growing.{Begins}
use Rattle.life_elab_laws.proofs.OrderedTypes.{KeepsOrder, order_none, order_then, members_later}
use Rattle.life_elab_laws.proofs.Setting.{GivesBack, Setting, unasked}
use Rattle.life_elab_laws.proofs.Shaped.{AreShaped}
use Rattle.life_elab_laws.proofs.ShapedLocals.{written_shaped}
use Rattle.life_elab_laws.proofs.ShortPlaces.{short_function}
use Rattle.life_elab_laws.proofs.StructTypes.{HasStructs, IsAdmittedTable, structs_later, plain_later}
use Rattle.life_elab_laws.proofs.WrittenLocals.{AreWrittenLocals}
use Rattle.life_types.specs.declared.ty.Ty.TheVariants as ty
use Rattle.life_elab_laws.proofs.HandedTypes.{handed_type}
use Rattle.life_elab_laws.proofs.OwnLocals.{first_own}

-- ---- one function among others

there : {X : Type 0} (xs : List X) (n : ℕ) → n < length xs → (x : X) × (slice_get xs n ≡ Some x)
there [] n lt = absurd (omega (arith, lt))
there (x ∷ xs) zero lt = (x, refl)
there (x ∷ xs) (suc n) lt = there xs n (omega (arith, lt))

pub int_at : (p : ProgramForm) (fs : List FunctionForm) (n : ℕ) (f : FunctionForm) → HaveIntMains p.names p.types fs → slice_get fs n ≡ Some f → is_main p.names f.name ≡ true → type_at p.types f.result ≡ ty.Int
int_at p = each_at (λ (f : FunctionForm). is_main p.names f.name ≡ true → type_at p.types f.result ≡ ty.Int) (HaveIntMains p.names p.types) (λ f fs h. h)

result_at : (types : Types) (fs : List FunctionForm) (n : ℕ) (f : FunctionForm) → HaveResults types fs → slice_get fs n ≡ Some f → (t : Ty) × (slice_get types.types f.result.0 ≡ Some t)
result_at types fs n f h at = there types.types f.result.0 (each_at (λ (g : FunctionForm). g.result.0 < length types.types) (HaveResults types) (λ g gs h. h) fs n f h at)

-- what is written for a function, whatever the table has by then, adds to what stands there where its body begins
pub record FunctionGrows (p : ProgramForm) (f : FunctionForm) (T : Types) : Type 0 where
  pub locals : IsFront (first_state (around p f) T).locals (written (around p f) T).locals
  pub table : IsFront T.types (written (around p f) T).types.types
  pub own : AreWrittenLocals p.types (around p f) (written (around p f) T)
  pub order : KeepsOrder T (written (around p f) T).types

-- a core function is what is written for a typed one, in a table that the program's ends with
pub record IsWritten (p : ProgramForm) (types : Types) (f : FunctionForm) (core : Function) : Type 0 where
  pub before : Types
  pub table : IsFront p.types.types before.types
  pub is : core ≡ function_from f (written (around p f) before)
  pub later : IsFront (written (around p f) before).types.types types.types

abbrev pub AreWritten : ProgramForm → Types → List FunctionForm → List Function → Type 0
AreWritten p types [] [] = Unit {0}
AreWritten p types (f ∷ fs) (core ∷ cores) = IsWritten p types f core × AreWritten p types fs cores
AreWritten p types _ _ = ⊥

pub written_at : (p : ProgramForm) (types : Types) (fs : List FunctionForm) (cores : List Function) (n : ℕ) (f : FunctionForm) → AreWritten p types fs cores → slice_get fs n ≡ Some f
    → (core : Function) × (slice_get cores n ≡ Some core) × IsWritten p types f core
written_at p types [] [] n f h at = absurd (none-some f at)
written_at p types (x ∷ fs) (core ∷ cores) zero f h at = (core, refl, subst (λ (y : FunctionForm). IsWritten p types y core) (same_Some x f at) h.0)
written_at p types (x ∷ fs) (core ∷ cores) (suc n) f h at = written_at p types fs cores n f h.1 at
written_at p types _ _ n f h at = absurd h

-- all of them, one after the other
pub record AllWritten (p : ProgramForm) (fs : List FunctionForm) (w : Functions) : Type 0 where
  pub more : List Function
  pub listed : (functions p fs w).functions ≡ w.functions ++ more
  pub table : IsFront w.types.types (functions p fs w).types.types
  pub order : KeepsOrder w.types (functions p fs w).types
  pub each : (types : Types) → IsFront (functions p fs w).types.types types.types → AreWritten p types fs more

all_written : (p : ProgramForm) (fs : List FunctionForm) (w : Functions) → ((n : ℕ) (f : FunctionForm) → slice_get fs n ≡ Some f → (T : Types) → IsFront p.types.types T.types → FunctionGrows p f T) → IsFront p.types.types w.types.types → AllWritten p fs w
all_written p [] w grows table = record { more = []; listed = sym (append-nil w.functions); table = front_itself w.types.types; order = order_none w.types; each = λ types later. tt }
all_written p (f ∷ fs) w grows table =
    let s = written (around p f) w.types in
    let one = grows zero f refl w.types table in
    let rest = all_written p fs (with_function f s w) (λ n. grows (suc n)) (front_then p.types.types w.types.types s.types.types table one.table) in
    record {
      more = function_from f s ∷ rest.more;
      listed = rest.listed ∙ append_assoc w.functions (function_from f s ∷ []) rest.more;
      table = front_then w.types.types s.types.types _ one.table rest.table;
      order = order_then w.types s.types _ one.order rest.order;
      each = λ types later. (record { before = w.types; table = table; is = refl; later = front_then s.types.types _ types.types rest.table later }, rest.each types later);
    }

module _ (p : ProgramForm) (typed : IsWellTyped p) (built : are_read_functions (length (texts_of p)) p p.functions ≡ true) (results : HasResults p) (told : IsAdmittedTable p.types) where
  pub of_program : (n : ℕ) (f : FunctionForm) → slice_get p.functions n ≡ Some f → IsFunctionOf p f
  of_program n f at =
      let t = result_at p.types p.functions n f results at in
      record { typed = each_at (IsWellTypedFunction p) (AreWellTyped p) (λ g gs h. h) p.functions n f typed at; built = read_parts (length (texts_of p)) p f (function_built (length (texts_of p)) p p.functions n f built at); ty = t.0; result = t.1 }

  setting_of : (types : Types) (fs : List Function) (f : FunctionForm) (core : Function) (n : ℕ) → slice_get p.functions n ≡ Some f → IsFront p.types.types types.types → KeepsOrder p.types types → GivesBack (around p f) types core
      → ((l : Local) → slice_get core.locals core.parameters ≡ Some l → is_void (ty_of types core.result) ≡ false → l.name ≡ None) → (is_void (ty_of types core.result) ≡ false → core.parameters < first_own (around p f))
      → ((g : ℕ) (of : FunctionForm) → slice_get p.functions g ≡ Some of → IsCallee types fs g of) → AreShaped types core.locals → Setting (around p f) types fs core
  setting_of types fs f core n at front order gives register own callees shaped = let is = of_program n f at in record {
    front = front;
    variables = is.built.variables;
    values = told.structs;
    structs = structs_later p.types types front order told.structs;
    members = members_later p.types types order;
    plain = plain_later p.types types front order told.structs;
    copies = copied_later p.types types front order told.structs.ordered;
    chars = told.chars;
    returned = λ g of there. (of_program g of there).built.result;
    result = is.built.result;
    taken = λ g of there m id at.
        handed_type p.types id (parameter_at p.types (take (length of.parameters) of.locals) (of_program g of there).built.parameters m id at);
    callees = callees;
    results = λ g of there. result_at p.types p.functions g of results there;
    gives = gives;
    shaped = shaped;
    own = own;
    nameless = λ l there some. register l there some;
  }

  -- ---- what is written grows: shown with functions that only begin

  abbrev begun : FunctionForm → Function
  begun f = function_from f (first_state (around p f) p.types)

  begun_there : (n : ℕ) (f : FunctionForm) → slice_get p.functions n ≡ Some f → slice_get (map begun p.functions) n ≡ Some (begun f)
  begun_there n f at = slice_get-map begun p.functions n ∙ ap (option_map begun) at

  begun_so : (f : FunctionForm) → IsBegun p f p.types p.types (begun f)
  begun_so f = record { table = front_itself p.types.types; later = front_itself p.types.types; plain = λ number pointless. pointless; count = refl; same = refl; locals = front_itself (first_state (around p f) p.types).locals }

  begun_callee : (g : ℕ) (of : FunctionForm) → slice_get p.functions g ≡ Some of → IsCallee p.types (map begun p.functions) g of
  begun_callee g of at = callee_from p of p.types p.types (begun of) (of_program g of at) (begun_so of) (map begun p.functions) g (begun_there g of at)

  -- .. one of them that gives nothing back itself: a type that isn't in the table is none
  abbrev mute : FunctionForm → Function
  mute f = record (begun f) { result = record { 0 = length p.types.types } }

  none_back : is_void (ty_of p.types (record { 0 = length p.types.types })) ≡ false → ⊥
  none_back some = false≢true (sym some ∙ ap (λ (o : Option Ty). is_void (or_void o)) (nothing_past p.types.types))

  mute_setting : (n : ℕ) (f : FunctionForm) → slice_get p.functions n ≡ Some f → Setting (around p f) p.types (map begun p.functions) (mute f)
  mute_setting n f at =
      let is = of_program n f at in
      let table = front_itself p.types.types in
      let first = subst (λ (x : Types). IsFront x.types p.types.types) (sym (first_types (around p f) p.types is.typed.parameters table)) table in
      setting_of p.types (map begun p.functions) f (mute f) n at table (order_none p.types) (unasked (ap class (nothing_past p.types.types))) (λ l there some. absurd (none_back some)) (λ some. absurd (none_back some)) begun_callee
      (written_shaped (around p f) (first_state (around p f) p.types) p.types table (λ number pointless. pointless) first is.built.variables (first_locals (around p f) p.types is.typed.parameters table is.ty is.result is.built.result))

  pub grows : (n : ℕ) (f : FunctionForm) → slice_get p.functions n ≡ Some f → (T : Types) → IsFront p.types.types T.types → FunctionGrows p f T
  grows n f at T table =
      let is = of_program n f at in
      let first = first_types (around p f) T is.typed.parameters table in
      let done = function_finished p f T p.types (map begun p.functions) (mute f) (mute_setting n f at) is table in
      record {
        locals = done.does.adds.locals;
        table = subst (λ (x : Types). IsFront x.types (written (around p f) T).types.types) first done.does.adds.table;
        own = done.does.locals (first_locals (around p f) T is.typed.parameters table is.ty is.result is.built.result);
        order = subst (λ (x : Types). KeepsOrder x (written (around p f) T).types) first done.does.order;
      }

  -- ---- the finished program

  abbrev pub whole : Functions
  whole = all_functions p

  all : AllWritten p p.functions (record { types = p.types; functions = [] })
  all = all_written p p.functions (record { types = p.types; functions = [] }) grows (front_itself p.types.types)

  -- .. in whose table each type comes behind its parts, and which has no more structs
  pub whole_order : KeepsOrder p.types whole.types
  whole_order = all.order

  pub whole_front : IsFront p.types.types whole.types.types
  whole_front = all.table

  pub each_written : AreWritten p whole.types p.functions whole.functions
  each_written = subst (AreWritten p whole.types p.functions) (sym all.listed) (all.each whole.types (front_itself whole.types.types))

  module _ (n : ℕ) (f : FunctionForm) (at : slice_get p.functions n ≡ Some f) (core : Function) (w : IsWritten p whole.types f core) where
    pub as_begun : IsBegun p f w.before whole.types core
    as_begun = let g = grows n f at w.before w.table in record {
      table = w.table;
      later = front_then w.before.types (written (around p f) w.before).types.types whole.types.types g.table w.later;
      plain = plain_later p.types whole.types whole_front whole_order told.structs;
      count = ap (λ (c : Function). c.parameters) w.is;
      same = ap (λ (c : Function). c.result) w.is;
      locals = subst (λ (c : Function). IsFront (first_state (around p f) w.before).locals c.locals) (sym w.is) g.locals;
    }

    pub front : IsFront p.types.types whole.types.types
    front = front_then p.types.types w.before.types whole.types.types w.table as_begun.later

    -- structs hold there what they may, too
    held : HasStructs whole.types
    held = structs_later p.types whole.types whole_front whole_order told.structs

    shaped : AreShaped whole.types core.locals
    shaped =
        subst (λ (c : Function). AreShaped whole.types c.locals) (sym w.is)
        (written_shaped (around p f) (written (around p f) w.before) whole.types front (plain_later p.types whole.types whole_front whole_order told.structs) w.later (of_program n f at).built.variables (grows n f at w.before w.table).own)

    -- the type of what it gives back
    pub written_result : slice_get whole.types.types core.result.0 ≡ Some (type_at p.types f.result)
    written_result =
        let is = of_program n f at in
        ap (λ (id : TyId). slice_get whole.types.types id.0) as_begun.same ∙ front f.result.0 is.ty is.result ∙ ap Some (sym (type_found p.types f.result is.ty is.result))

    pub written_begins : Begins whole.types core (written (around p f) w.before)
    written_begins = record {
      locals = subst (λ (c : Function). IsFront (written (around p f) w.before).locals c.locals) (sym w.is) (front_itself (written (around p f) w.before).locals);
      table = w.later;
    }

  callee : (g : ℕ) (of : FunctionForm) → slice_get p.functions g ≡ Some of → IsCallee whole.types whole.functions g of
  callee g of at =
      let found = written_at p whole.types p.functions whole.functions g of each_written at in
      callee_from p of found.2.before whole.types found.0 (of_program g of at) (as_begun g of at found.0 found.2) whole.functions g found.1

  -- ---- one function

  module _ (n : ℕ) (f : FunctionForm) (at : slice_get p.functions n ≡ Some f) (core : Function) (w : IsWritten p whole.types f core) where
    is : IsFunctionOf p f
    is = of_program n f at

    pub one_body : HasIntMain p → IsProperBody (around p f) whole.types (length (texts_of p)) whole.functions core
    one_body mains =
        let begun_so = as_begun n f at core w in
        let setting =
        setting_of whole.types whole.functions f core n at (front n f at core w) whole_order (gives_from p f w.before whole.types core is begun_so (int_at p p.functions n f mains at)) (result_nameless p f w.before whole.types core is begun_so) (result_before p f w.before whole.types core is begun_so) callee (shaped n f at core w) in
        function_proper p f w.before whole.types whole.functions core setting is w.table (as_begun n f at core w) (written_begins n f at core w) (ap (λ (c : Function). c.body) w.is)

    one_short : over_parts whole.types core ≡ None → AreShort (elements_of whole.types core)
    one_short none = short_function whole.types (held n f at core w) core (first_none (over_locals whole.types core.locals) (over_function whole.types core) none).0 (shaped n f at core w) (takes_handed p f w.before whole.types core is (as_begun n f at core w))

    -- the locals are well formed, and what else stands beside the body
    pub one_head : HasNames p → HasFormedHead whole.types (length p.names) core
    one_head names =
        let g = grows n f at w.before w.table in
        subst (HasFormedHead whole.types (length p.names)) (sym w.is)
        (head_formed p f w.before whole.types (length p.names) is w.table (front n f at core w) g.locals w.later g.own
        (passed_at (is_function_named (length p.names)) (list_all (is_function_named (length p.names))) (λ g gs. refl) p.functions n f names.named at) (held n f at core w) (plain_later p.types whole.types whole_front whole_order told.structs))

  -- ---- what is so of each function is so of all

  abbrev pub OfEach : (Function → Type 0) → Type 0
  OfEach One = (n : ℕ) (f : FunctionForm) → slice_get p.functions n ≡ Some f → (core : Function) → IsWritten p whole.types f core → One core

  pub of_all : (One : Function → Type 0) (All : List Function → Type 0) → All [] → ((core : Function) (cores : List Function) → One core → All cores → All (core ∷ cores)) → OfEach One → All whole.functions
  of_all One All none more each = go p.functions whole.functions each each_written
    where
      go : (fs : List FunctionForm) (cores : List Function) → ((n : ℕ) (f : FunctionForm) → slice_get fs n ≡ Some f → (core : Function) → IsWritten p whole.types f core → One core) → AreWritten p whole.types fs cores → All cores
      go [] [] each h = none
      go (f ∷ fs) (core ∷ cores) each h = more core cores (each zero f refl core h.0) (go fs cores (λ n. each (suc n)) h.1)
      go _ _ each h = absurd h

  pub passed_by_all : (test : Function → Bool) (all : List Function → Bool) → all [] ≡ true → ((core : Function) (cores : List Function) → all (core ∷ cores) ≡ (test core && all cores)) → OfEach (λ core. test core ≡ true)
      → all whole.functions ≡ true
  passed_by_all test all none more each =
      of_all (λ core. test core ≡ true) (λ cores. all cores ≡ true) none (λ core cores one others. more core cores ∙ and_from (test core) (all cores) one others) each

  pub program_checked : HasIntMain p → checked (translated p) ≡ true
  program_checked mains = passed_by_all (is_checked whole.types) (list_all (is_checked whole.types)) refl (λ core cores. refl) (λ n f at core w. (one_body n f at core w mains).checked)

  pub program_breaks : HasIntMain p → have_own_breaks (translated p) ≡ true
  program_breaks mains = passed_by_all has_own_breaks (list_all has_own_breaks) refl (λ core cores. refl) (λ n f at core w. (one_body n f at core w mains).stated.breaks)

  -- where it passes no limit
  pub program_short : over_functions whole.types whole.functions ≡ None → HaveShortPlaces whole.types whole.functions
  program_short =
      of_all (λ core. over_parts whole.types core ≡ None → AreShort (elements_of whole.types core)) (λ cores. over_functions whole.types cores ≡ None → HaveShortPlaces whole.types cores) (λ none. tt)
      (λ core cores one others none. let both = first_none (over_parts whole.types core) (over_functions whole.types cores) none in (one both.0, others both.1)) one_short
