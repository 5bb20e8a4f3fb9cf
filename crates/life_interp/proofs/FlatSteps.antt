-- Points in a form of their own are the points that they are of.
use Rattle.std.proofs.Common.{◌≡◌, ◌⊎◌, inl, inr, ℕ, zero, suc, Bool, true, false, List, [], ◌∷◌, ◌<◌, length, map, Option, Some, None, Ok, ap, refl, subst, sym, ◌∙◌}
use Rattle.std.proofs.lemmas.List.{length-map}
use Rattle.std.proofs.lemmas.Option.{none-some, same_Some, slice_get-map}
use Rattle.std.specs.Prelude.{option_and_then, option_map, slice_get}
use Rattle.std.specs.declared.alloc.Global.{Global}
use Rattle.std.specs.declared.vec.Vec.{Vec}
use Rattle.life_types.specs.declared.place.Place.{Place}
use Rattle.life_core.specs.Function.{Function, Program}
use Rattle.life_core.specs.Linked.{Lead, Linked, code_of, numbered, spot_at}
use Rattle.life_core.specs.Operands.{Base, Location, Name, Operand, Owner, Pointer, Through, behind, object_named, whole}
use Rattle.life_core.specs.Step.{Step, Live, End, Eval, Load, Save, Copy, Move, Aim, Repoint, Element, Cursor, Advance, Cut, Size, Same, Changes, Make, Call, Ports, NonZero, NotNull, Test}
use Rattle.life_core.specs.Tree.{Node, Action, Question, Return, Stop}
use Rattle.life_core.specs.declared.instr.Form.TheVariants as form
use Rattle.life_core.specs.declared.operand.Which.{Which}
use Rattle.life_core.specs.declared.operand.Which.TheVariants as which
use Rattle.life_store.specs.Content.{Content}
use Rattle.life_cells.specs.Typed.{is_nil}
use Rattle.life_interp.specs.Flats.{end_of, flat_act, flat_node, flat_of, index_of, load_from, named_local, no_point, only_if, owning_local, pointed_local, save_to, step_in, table_in, table_of, whole_local}
use Rattle.life_interp.specs.Frames.{function_at, point_at}
use Rattle.life_interp.specs.Quick.{IsPlainStep, WhereDone}
use Rattle.life_interp.specs.Runs.{table_seen}
use Rattle.life_interp.specs.Walk.{first_way, second_way}
use Rattle.life_interp.specs.Walking.{IsSoundWalk, StandsHere}
use Rattle.life_interp.specs.declared.flat.Act.{Act}
use Rattle.life_interp.specs.declared.flat.Act.TheVariants as act
use Rattle.life_interp.specs.declared.flat.Flat.{Flat}
use Rattle.life_interp.specs.declared.frames.Frames.{Frames}
use Rattle.life_interp.proofs.CodeLists.{there_at}
use Rattle.life_interp.proofs.QuickSteps.{WhereLeft}
use Rattle.life_interp.proofs.SoundFrames.{chosen_sound}

-- ---- whole locals

whole_from : (y : ℕ) (members : List ℕ) (x : ℕ) → only_if (is_nil members) (Some y) ≡ Some x → record { local = y; members = members } ≡ whole x
whole_from y [] x e = ap whole (same_Some y x e)
whole_from y (m ∷ ms) x e = absurd (none-some x e)

whole_is : (l : Location) (x : ℕ) → whole_local l ≡ Some x → l ≡ whole x
whole_is l x e = whole_from l.local l.members x e

named_is : (o : Operand) (x : ℕ) → named_local o ≡ Some x → o ≡ object_named x
named_is (Name l) x e = ap Name (whole_is l x e)
named_is (Through p members) x e = absurd (none-some x e)

behind_from : (l : Location) (members : List ℕ) (p : ℕ) → only_if (is_nil members) (whole_local l) ≡ Some p → Through l members ≡ behind p
behind_from l [] p e = ap (λ k. Through k []) (whole_is l p e)
behind_from l (m ∷ ms) p e = absurd (none-some p e)

pointed_is : (o : Operand) (p : ℕ) → pointed_local o ≡ Some p → o ≡ behind p
pointed_is (Name l) p e = absurd (none-some p e)
pointed_is (Through l members) p e = behind_from l members p e

owning_is : (b : Base) (x : ℕ) → owning_local b ≡ Some x → b ≡ Owner (object_named x)
owning_is (Owner o) x e = ap Owner (named_is o x e)
owning_is (Pointer l) x e = absurd (none-some x e)

-- ---- the instruction of a form

load_is : (r : ℕ) (o : Operand) (n p : Option ℕ) → named_local o ≡ n → pointed_local o ≡ p → (j : Step) → step_in (load_from r n p) ≡ Some j → Load r o ≡ j
load_is r o (Some x) p named pointed j e = ap (Load r) (named_is o x named) ∙ same_Some (Load r (object_named x)) j e
load_is r o None (Some x) named pointed j e = ap (Load r) (pointed_is o x pointed) ∙ same_Some (Load r (behind x)) j e
load_is r o None None named pointed j e = absurd (none-some j e)

save_is : (o : Operand) (r : ℕ) (n p : Option ℕ) → named_local o ≡ n → pointed_local o ≡ p → (j : Step) → step_in (save_to n p r) ≡ Some j → Save o r ≡ j
save_is o r (Some x) p named pointed j e = ap (λ k. Save k r) (named_is o x named) ∙ same_Some (Save (object_named x) r) j e
save_is o r None (Some x) named pointed j e = ap (λ k. Save k r) (pointed_is o x pointed) ∙ same_Some (Save (behind x) r) j e
save_is o r None None named pointed j e = absurd (none-some j e)

index_is : (l : Location) (b : Base) (r : ℕ) (p v : Option ℕ) → whole_local l ≡ p → owning_local b ≡ v → (j : Step) → step_in (index_of p v r) ≡ Some j → Element l b (which.Index r) ≡ j
index_is l b r (Some x) (Some y) pointer owner j e =
    ap (λ k. Element k b (which.Index r)) (whole_is l x pointer)
    ∙ ap (λ k. Element (whole x) k (which.Index r)) (owning_is b y owner)
    ∙ same_Some (Element (whole x) (Owner (object_named y)) (which.Index r)) j e
index_is l b r (Some x) None pointer owner j e = absurd (none-some j e)
index_is l b r None v pointer owner j e = absurd (none-some j e)

element_is : (l : Location) (b : Base) (w : Which) (j : Step) → step_in (flat_act (Element l b w)) ≡ Some j → Element l b w ≡ j
element_is l b (which.Index r) j e = index_is l b r (whole_local l) (owning_local b) refl refl j e
element_is l b which.First j e = absurd (none-some j e)
element_is l b which.Last j e = absurd (none-some j e)
element_is l b which.Target j e = absurd (none-some j e)

end_is : (xs : List ℕ) (j : Step) → step_in (end_of xs) ≡ Some j → End xs ≡ j
end_is [] j e = absurd (none-some j e)
end_is (x ∷ []) j e = same_Some (End (x ∷ [])) j e
end_is (x ∷ y ∷ ys) j e = absurd (none-some j e)

flat_is : (i j : Step) → step_in (flat_act i) ≡ Some j → i ≡ j
flat_is (Live x form.Plain) j e = same_Some (Live x form.Plain) j e
flat_is (Live x form.Zero) j e = absurd (none-some j e)
flat_is (End xs) j e = end_is xs j e
flat_is (Eval r operation) j e = same_Some (Eval r operation) j e
flat_is (Load r o) j e = load_is r o (named_local o) (pointed_local o) refl refl j e
flat_is (Save o r) j e = save_is o r (named_local o) (pointed_local o) refl refl j e
flat_is (Copy to from) j e = absurd (none-some j e)
flat_is (Move to y) j e = absurd (none-some j e)
flat_is (Aim p s) j e = absurd (none-some j e)
flat_is (Repoint p q) j e = absurd (none-some j e)
flat_is (Element l b w) j e = element_is l b w j e
flat_is (Cursor p b end) j e = absurd (none-some j e)
flat_is (Advance p q r direction) j e = absurd (none-some j e)
flat_is (Cut p q r count) j e = absurd (none-some j e)
flat_is (Size r b) j e = absurd (none-some j e)
flat_is (Same r a b equal) j e = absurd (none-some j e)
flat_is (Changes o c) j e = absurd (none-some j e)
flat_is (Make u made) j e = absurd (none-some j e)
flat_is (Call target f xs) j e = absurd (none-some j e)
flat_is (Ports p) j e = absurd (none-some j e)

-- an instruction stands where a form has one
pub node_is : (n : Node) (failed : Option ℕ) (i : Step) → step_in (flat_node n failed) ≡ Some i → n ≡ Action i
node_is (Action k) failed i e = ap Action (flat_is k i e)
node_is (Question (NonZero r)) failed i e = absurd (none-some i e)
node_is (Question (NotNull l)) failed i e = absurd (none-some i e)
node_is Return failed i e = absurd (none-some i e)
node_is Stop failed i e = absurd (none-some i e)

-- ---- the test of one

abbrev tested_in : Act → Option ℕ
tested_in (act.Test r failed) = Some r
tested_in _ = None

abbrev failed_in : Act → Option ℕ
failed_in (act.Test r failed) = failed
failed_in _ = None

load_no_test : (r : ℕ) (n p : Option ℕ) → tested_in (load_from r n p) ≡ None
load_no_test r (Some x) p = refl
load_no_test r None (Some x) = refl
load_no_test r None None = refl

save_no_test : (r : ℕ) (n p : Option ℕ) → tested_in (save_to n p r) ≡ None
save_no_test r (Some x) p = refl
save_no_test r None (Some x) = refl
save_no_test r None None = refl

index_no_test : (r : ℕ) (p v : Option ℕ) → tested_in (index_of p v r) ≡ None
index_no_test r (Some x) (Some y) = refl
index_no_test r (Some x) None = refl
index_no_test r None v = refl

element_no_test : (l : Location) (b : Base) (w : Which) → tested_in (flat_act (Element l b w)) ≡ None
element_no_test l b (which.Index r) = index_no_test r (whole_local l) (owning_local b)
element_no_test l b which.First = refl
element_no_test l b which.Last = refl
element_no_test l b which.Target = refl

end_no_test : (xs : List ℕ) → tested_in (end_of xs) ≡ None
end_no_test [] = refl
end_no_test (x ∷ []) = refl
end_no_test (x ∷ y ∷ ys) = refl

act_no_test : (i : Step) → tested_in (flat_act i) ≡ None
act_no_test (Live x form.Plain) = refl
act_no_test (Live x form.Zero) = refl
act_no_test (End xs) = end_no_test xs
act_no_test (Eval r operation) = refl
act_no_test (Load r o) = load_no_test r (named_local o) (pointed_local o)
act_no_test (Save o r) = save_no_test r (named_local o) (pointed_local o)
act_no_test (Copy to from) = refl
act_no_test (Move to y) = refl
act_no_test (Aim p s) = refl
act_no_test (Repoint p q) = refl
act_no_test (Element l b w) = element_no_test l b w
act_no_test (Cursor p b end) = refl
act_no_test (Advance p q r direction) = refl
act_no_test (Cut p q r count) = refl
act_no_test (Size r b) = refl
act_no_test (Same r a b equal) = refl
act_no_test (Changes o c) = refl
act_no_test (Make u made) = refl
act_no_test (Call target f xs) = refl
act_no_test (Ports p) = refl

pub other_no_test : (r : ℕ) (failed : Option ℕ) → act.Other ≡ act.Test r failed → ⊥
other_no_test r failed e = none-some r (ap tested_in e)

pub test_is : (n : Node) (failed : Option ℕ) (r : ℕ) (way : Option ℕ) → flat_node n failed ≡ act.Test r way → (n ≡ Question (NonZero r)) × (failed ≡ way)
test_is (Action i) failed r way e = absurd (none-some r (sym (act_no_test i) ∙ ap tested_in e))
test_is (Question (NonZero q)) failed r way e = (ap (λ k. Question (NonZero k)) (same_Some q r (ap tested_in e)), ap failed_in e)
test_is (Question (NotNull l)) failed r way e = absurd (none-some r (ap tested_in e))
test_is Return failed r way e = absurd (none-some r (ap tested_in e))
test_is Stop failed r way e = absurd (none-some r (ap tested_in e))

-- ---- what is told of every form

-- what isn't none and no test is an instruction
pub is_act : (a : Act) → (a ≡ act.Other → ⊥) → ((r : ℕ) (failed : Option ℕ) → a ≡ act.Test r failed → ⊥) → (i : Step) × (step_in a ≡ Some i)
is_act act.Other none test = absurd (none refl)
is_act (act.Live x) none test = (Live x form.Plain, refl)
is_act (act.End x) none test = (End (x ∷ []), refl)
is_act (act.Eval r operation) none test = (Eval r operation, refl)
is_act (act.Load r x) none test = (Load r (object_named x), refl)
is_act (act.LoadThrough r p) none test = (Load r (behind p), refl)
is_act (act.Save x r) none test = (Save (object_named x) r, refl)
is_act (act.SaveThrough p r) none test = (Save (behind p) r, refl)
is_act (act.Index p v r) none test = (Element (whole p) (Owner (object_named v)) (which.Index r), refl)
is_act (act.Test r failed) none test = absurd (test r failed refl)

-- one that no frame waits for, and by which no value goes to another place
pub plain_in : (a : Act) (i : Step) → step_in a ≡ Some i → IsPlainStep i
plain_in act.Other i e = absurd (none-some i e)
plain_in (act.Live x) i e = subst IsPlainStep (same_Some (Live x form.Plain) i e) (record { own = tt; stays = tt })
plain_in (act.End x) i e = subst IsPlainStep (same_Some (End (x ∷ [])) i e) (record { own = tt; stays = tt })
plain_in (act.Eval r operation) i e = subst IsPlainStep (same_Some (Eval r operation) i e) (record { own = tt; stays = tt })
plain_in (act.Load r x) i e = subst IsPlainStep (same_Some (Load r (object_named x)) i e) (record { own = tt; stays = tt })
plain_in (act.LoadThrough r p) i e = subst IsPlainStep (same_Some (Load r (behind p)) i e) (record { own = tt; stays = tt })
plain_in (act.Save x r) i e = subst IsPlainStep (same_Some (Save (object_named x) r) i e) (record { own = tt; stays = tt })
plain_in (act.SaveThrough p r) i e = subst IsPlainStep (same_Some (Save (behind p) r) i e) (record { own = tt; stays = tt })
plain_in (act.Index p v r) i e = subst IsPlainStep (same_Some (Element (whole p) (Owner (object_named v)) (which.Index r)) i e) (record { own = tt; stays = tt })
plain_in (act.Test r failed) i e = absurd (none-some i e)

-- ---- tables of them

-- the form is of the point
abbrev pub IsOf : Option Linked → Flat → Type 0
IsOf o x = (x ≡ no_point) ⊎ ((l : Linked) × (o ≡ Some l) × (flat_of l ≡ x))

mapped : (o : Option Linked) (x : Flat) → option_map flat_of o ≡ Some x → (l : Linked) × (o ≡ Some l) × (flat_of l ≡ x)
mapped None x e = absurd (none-some x e)
mapped (Some l) x e = (l, refl, same_Some (flat_of l) x e)

table_point : (ls : List Linked) (n : ℕ) (x : Flat) → slice_get (table_in ls) n ≡ Some x → IsOf (numbered ls n) x
table_point ls zero x e = inl (sym (same_Some no_point x e))
table_point ls (suc n) x e = inr (mapped (slice_get ls n) x (sym (slice_get-map flat_of ls n) ∙ e))

found_point : (ls : List Linked) (o : Option ℕ) (x : Flat) → option_and_then (slice_get (table_in ls)) o ≡ Some x → IsOf (option_and_then (numbered ls) o) x
found_point ls None x e = absurd (none-some x e)
found_point ls (Some n) x e = table_point ls n x e

pub flat_point : (fs : List Function) (frames : Frames) (table : List Flat) (x : Flat) → table ≡ table_of (function_at fs frames.function) → option_and_then (slice_get table) frames.point ≡ Some x → IsOf (point_at fs frames) x
flat_point fs frames table x is e =
    found_point (code_of (function_at fs frames.function)) frames.point x (ap (λ (t : List Flat). option_and_then (slice_get t) frames.point) (sym is) ∙ e)

-- ---- those of all functions

pub tables_length : (tables : List (Vec Flat Global)) (codes : List (List Linked)) → map table_seen tables ≡ map table_in codes → length tables ≡ length codes
tables_length tables codes e = sym (length-map tables table_seen) ∙ ap length e ∙ length-map codes table_in

pub table_at : (tables : List (Vec Flat Global)) (fs : List Function) (n : ℕ) (v : Vec Flat Global) → map table_seen tables ≡ map table_in (map code_of fs) → slice_get tables n ≡ Some v → n < length fs → v.items ≡ table_of (function_at fs n)
table_at tables fs n v e there lt =
    same_Some v.items (table_of (function_at fs n))
    (sym (slice_get-map table_seen tables n ∙ ap (option_map table_seen) there)
    ∙ ap (λ (xs : List (List Flat)). slice_get xs n) e
    ∙ slice_get-map table_in (map code_of fs) n
    ∙ ap (option_map table_in) (slice_get-map code_of fs n ∙ ap (option_map code_of) (there_at fs n lt)))

-- ---- a test that is passed

-- a test stands at the point
pub question_there : (p : Program) (frames : Frames) (l : Linked) (t : Test) → point_at p.functions frames ≡ Some l → l.spot.node ≡ Question t → StandsHere p frames l.spot.place (Question t) l.leads
question_there p frames l t at is = at ∙ ap (λ (n : Node). Some (record { spot = spot_at l.spot.place n; leads = l.leads })) is

pub tested_sound : (p : Program) (frames : Frames) (c : Content) (sound : IsSoundWalk p frames c) (place : Place) (t : Test) (ls : List Lead) → StandsHere p frames place (Question t) ls → (new : Frames)
    → new.function ≡ frames.function → new.cells ≡ frames.cells → new.waiting ≡ frames.waiting → (b : Bool) → WhereDone b ((new.point ≡ first_way ls) ⊎ (new.point ≡ second_way ls)) → WhereLeft b (new ≡ frames) → IsSoundWalk p new c
tested_sound p frames c sound place t ls stands new function cells waiting true led left = chosen_sound p frames c sound {A = ℕ} {E = ℕ} place t ls stands new function cells waiting (Ok 0) led
tested_sound p frames c sound place t ls stands new function cells waiting false led left = subst (λ (w : Frames). IsSoundWalk p w c) (sym left) sound
