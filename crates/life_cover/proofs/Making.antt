-- Each place that facts name is made of its root, step by step; so what the owner there has is in the table as well.
use Rattle.std.proofs.Common.{◌≡◌, inl, inr, ℕ, ◌+◌, ◌≤◌, Bool, true, false, List, [], ◌∷◌, ◌++◌, map, length, Some, refl, sym, ap, subst, ◌∙◌, arith, Option, ◌<◌}
use Rattle.std.specs.Prelude.{Contains, if◌then◌else◌, nat_lt, slice_get}
use Rattle.std.specs.List.{flat_map}
use Rattle.std.proofs.lemmas.Bool.Decides.{nat_tests}
use Rattle.std.proofs.lemmas.List.{length-set}
use Rattle.std.proofs.lemmas.List.Elements.{Contains-append_cases}
use Rattle.life_types.specs.Trees.{IsOrdered, TypeTree, Text, Vector, Unique, Member, tree_at}
use Rattle.life_types.specs.Types.{Types}
use Rattle.life_types.specs.declared.place.Place.{Place}
use Rattle.life_types.specs.declared.ty.TyId.{TyId}
use Rattle.life_core.specs.declared.program.Local.{Local}
use Rattle.life_core.specs.declared.program.LocalKind.{LocalKind}
use Rattle.life_core.specs.declared.program.LocalKind.TheVariants.{Object, Register, Range}
use Rattle.life_core.specs.Function.{Function}
use Rattle.life_core.specs.Linked.{code_of}
use Rattle.life_core.specs.Step.{Step, Live, End, Copy, Move, Changes, Make, Call}
use Rattle.life_core.specs.Tree.{Node, Action, Question, Return, Stop}
use Rattle.life_pset.specs.Elements.{AreShort, IsShort, called, caused_at, caused_elements, causes_of_end, changed, changed_in, elements_of, end_elements, input_places, inputs_of, local_place, moved, node_elements, object_places, objects_from, places_from, places_in, step_elements, uninitialised}
use Rattle.life_pset.specs.Places.{longer, member_place, owned_place, owned_step, path, root_place, stepped, too_long}
use Rattle.life_pset.specs.Shapes.{shape, target_type, tree_if}
use Rattle.life_pset.specs.Table.{IsOf, table_of}
use Rattle.life_pset.specs.declared.element.AbsPlace.{AbsPlace}
use Rattle.life_pset.specs.declared.element.Cause.{Cause}
use Rattle.life_pset.specs.declared.element.Element.{Element}
use Rattle.life_pset.specs.declared.element.Element.TheVariants as element
use Rattle.life_pset.specs.declared.element.Root.{Root}
use Rattle.life_pset.specs.declared.element.Root.TheVariants as root
use Rattle.life_pset.proofs.Numbers.{is_of_iff}
use Rattle.life_proper.specs.Placed.{object_at}
use Rattle.life_rules.specs.Matching.{fact_at}
use Rattle.life_rules.proofs.Giving.{at_head, cons_cases, flat_map_from, in_tail, none_in_empty}
use Rattle.life_store.specs.Content.{Content}
use Rattle.life_store.specs.State.{Cell, Named}
use Rattle.life_forest.proofs.Shaped.{IsShaped}
use Rattle.life_cover.specs.Frames.{RootStands}
use Rattle.life_cover.specs.Inputs.{IsInput, StandsAt}
use Rattle.life_cover.specs.Regions.{IsAt, Region, owned_in_type}
use Rattle.life_cover.proofs.InputPlaces.{place_behind}
use Rattle.life_cover.proofs.Listing.{inner_among, object_known, owned_itself, place_itself, steps_from, member_among}
use Rattle.life_cover.proofs.Stepping.{HasRoom, stepped_path, stepped_room}
use Rattle.life_store.specs.Parts.{members_of}

-- ---- lists

each_cons : {A : Type 0} (P : A → Type 0) (x : A) (xs : List A) → P x → ((y : A) → Contains xs y → P y) → (y : A) → Contains (x ∷ xs) y → P y
each_cons P x xs h rest y has = elim (cons_cases x xs y has) [ inl e ↦ subst P e h | inr more ↦ rest y more ]

each_append : {A : Type 0} (P : A → Type 0) (xs ys : List A) → ((y : A) → Contains xs y → P y) → ((y : A) → Contains ys y → P y) → (y : A) → Contains (xs ++ ys) y → P y
each_append P xs ys one two y has = elim (Contains-append_cases xs ys y has) [ inl here ↦ one y here | inr there ↦ two y there ]

each_map : {A B : Type 0} (P : B → Type 0) (g : A → B) (xs : List A) → ((x : A) → Contains xs x → P (g x)) → (y : B) → Contains (map g xs) y → P y
each_map P g [] h y has = absurd (none_in_empty y has)
each_map P g (x ∷ xs) h y has = each_cons P (g x) (map g xs) (h x (at_head x xs)) (each_map P g xs (λ z k. h z (in_tail x xs z k))) y has

each_none : {A : Type 0} (P : A → Type 0) (y : A) → Contains [] y → P y
each_none P y has = absurd (none_in_empty y has)

append_assoc : {A : Type 0} (xs ys zs : List A) → (xs ++ ys) ++ zs ≡ xs ++ (ys ++ zs)
append_assoc [] ys zs = refl
append_assoc (x ∷ xs) ys zs = ap (◌∷◌ x) (append_assoc xs ys zs)

append_none : {A : Type 0} (xs : List A) → xs ++ [] ≡ xs
append_none [] = refl
append_none (x ∷ xs) = ap (◌∷◌ x) (append_none xs)

-- ---- places that are made of their roots

pub record IsMadeOf (r : Root) (a : AbsPlace) : Type 0 where
  pub root : a.root ≡ r
  pub made : a.length ≤ 8 → (ss : List ℕ) × (a ≡ steps_from (root_place r) ss)

steps_last : (a : AbsPlace) (ss : List ℕ) (s : ℕ) → stepped (steps_from a ss) s ≡ steps_from a (ss ++ (s ∷ []))
steps_last a [] s = refl
steps_last a (x ∷ ss) s = steps_last (stepped a x) ss s

pub root_made : (r : Root) → IsMadeOf r (root_place r)
root_made r = record { root = refl; made = λ le. ([], refl) }

long_made : (r : Root) (a : AbsPlace) → a.root ≡ r → IsMadeOf r (too_long a)
long_made r a e = record { root = e; made = λ le. absurd (omega (arith, le)) }

pub stepped_made : (r : Root) (a : AbsPlace) (s : ℕ) → IsMadeOf r a → IsMadeOf r (stepped a s)
stepped_made r a s h = go (nat_lt a.length 8) refl
  where
    go : (b : Bool) → nat_lt a.length 8 ≡ b → IsMadeOf r (stepped a s)
    go false e = subst (IsMadeOf r) (sym (ap (λ b. if b then longer a s else too_long a) e)) (long_made r a h.root)
    go true e =
        let is : stepped a s ≡ longer a s = ap (λ b. if b then longer a s else too_long a) e in
        subst (IsMadeOf r) (sym is)
        (record { root = h.root; made = λ le. let m = h.made (omega (arith, le)) in (m.0 ++ (s ∷ []), sym is ∙ ap (λ (b : AbsPlace). stepped b s) m.1 ∙ steps_last (root_place r) m.0 s) })

member_made : (r : Root) (a : AbsPlace) (m : ℕ) → IsMadeOf r a → IsMadeOf r (member_place a m)
member_made r a m h = go (nat_lt m owned_step)
  where
    go : (b : Bool) → IsMadeOf r (if b then stepped a m else too_long a)
    go true = stepped_made r a m h
    go false = long_made r a h.root

abbrev AreMade : Root → List AbsPlace → Type 0
AreMade r xs = (y : AbsPlace) → Contains xs y → IsMadeOf r y

pub tree_made_of : (r : Root) (t : TypeTree) → ((a : AbsPlace) → IsMadeOf r a → AreMade r (places_in a t)) × ((a : AbsPlace) (m : ℕ) → IsMadeOf r a → AreMade r (places_from a m t))
tree_made_of r Text = (λ a h. each_cons (IsMadeOf r) a (owned_place a ∷ []) h (each_cons (IsMadeOf r) (owned_place a) [] (stepped_made r a owned_step h) (each_none (IsMadeOf r))), λ a m h. each_none (IsMadeOf r))
tree_made_of r (Vector item) = (λ a h. each_cons (IsMadeOf r) a (places_in (owned_place a) item) h ((tree_made_of r item).0 (owned_place a) (stepped_made r a owned_step h)), λ a m h. each_none (IsMadeOf r))
tree_made_of r (Unique item) = (λ a h. each_cons (IsMadeOf r) a (places_in (owned_place a) item) h ((tree_made_of r item).0 (owned_place a) (stepped_made r a owned_step h)), λ a m h. each_none (IsMadeOf r))
tree_made_of r (Member first others) = (
  λ a h. each_cons (IsMadeOf r) a (places_in (member_place a 0) first ++ places_from a 1 others) h
      (each_append (IsMadeOf r) (places_in (member_place a 0) first) (places_from a 1 others) ((tree_made_of r first).0 (member_place a 0) (member_made r a 0 h)) ((tree_made_of r others).1 a 1 h)),
  λ a m h. each_append (IsMadeOf r) (places_in (member_place a m) first) (places_from a (m + 1) others) ((tree_made_of r first).0 (member_place a m) (member_made r a m h)) ((tree_made_of r others).1 a (m + 1) h),
)
tree_made_of r _ = (λ a h. each_cons (IsMadeOf r) a [] h (each_none (IsMadeOf r)), λ a m h. each_none (IsMadeOf r))

-- ---- the elements of a function

abbrev IsMadeElement : Element → Type 0
IsMadeElement (element.At a) = IsMadeOf a.root a
IsMadeElement _ = Unit {0}

own_root : (r : Root) (a : AbsPlace) → IsMadeOf r a → IsMadeOf a.root a
own_root r a h = subst (λ (x : Root). IsMadeOf x a) (sym h.root) h

objects_made : (types : Types) (n x : ℕ) (ls : List Local) (a : AbsPlace) → Contains (objects_from types n x ls) a → IsMadeOf a.root a
objects_made types n x [] a h = each_none (λ (b : AbsPlace). IsMadeOf b.root b) a h
objects_made types n x (l ∷ ls) a h =
    each_append (λ (a : AbsPlace). IsMadeOf a.root a) (object_places l.kind (tree_at types (shape types n x l)) x) (objects_from types n (x + 1) ls) (kind l.kind) (objects_made types n (x + 1) ls) a h
  where
    kind : (k : LocalKind) (a : AbsPlace) → Contains (object_places k (tree_at types (shape types n x l)) x) a → IsMadeOf a.root a
    kind Object b k = own_root (root.Local x) b ((tree_made_of (root.Local x) (tree_at types (shape types n x l))).0 (local_place x) (root_made (root.Local x)) b k)
    kind Register b k = each_none (λ (a : AbsPlace). IsMadeOf a.root a) b k
    kind Range b k = each_none (λ (a : AbsPlace). IsMadeOf a.root a) b k

-- what has a cause is no place
one_cause : (e : Element) → IsMadeElement e → (y : Element) → Contains (e ∷ []) y → IsMadeElement y
one_cause e h = each_cons IsMadeElement e [] h (each_none IsMadeElement)

ended_made : (f : Function) (place : Place) (x : ℕ) (y : Element) → Contains (end_elements f place x) y → IsMadeElement y
ended_made f place x = each_map IsMadeElement element.Invalid (causes_of_end f place x) (λ (c : Cause) h. tt)

step_made : (f : Function) (place : Place) (i : Step) (y : Element) → Contains (step_elements f place i) y → IsMadeElement y
step_made f place (Live x form) y h = one_cause (element.Invalid (uninitialised place x)) tt y h
step_made f place (End xs) y h = let r = flat_map_from (end_elements f place) xs y h in ended_made f place r.0 y r.1.1
step_made f place (Copy to from) y h = one_cause (element.Invalid (changed_in place to)) tt y h
step_made f place (Move to z) y h =
    each_cons IsMadeElement (element.Invalid (moved place z)) (element.Moved (moved place z) ∷ element.Invalid (changed_in place to) ∷ []) tt
    (each_cons IsMadeElement (element.Moved (moved place z)) (element.Invalid (changed_in place to) ∷ []) tt (one_cause (element.Invalid (changed_in place to)) tt)) y h
step_made f place (Changes o change) y h = one_cause (element.Invalid (changed_in place o)) tt y h
step_made f place (Make u made) y h = one_cause (element.Invalid (changed place u.local)) tt y h
step_made f place (Call target g xs) y h = one_cause (element.Invalid (called place g.0)) tt y h
step_made f place _ y h = each_none IsMadeElement y h

node_made : (f : Function) (place : Place) (n : Node) (y : Element) → Contains (node_elements f place n) y → IsMadeElement y
node_made f place (Action i) = step_made f place i
node_made f place (Question t) = each_none IsMadeElement
node_made f place Return = each_none IsMadeElement
node_made f place Stop = each_none IsMadeElement

caused_made : (f : Function) (y : Element) → Contains (caused_elements f) y → IsMadeElement y
caused_made f y h = let r = flat_map_from (caused_at f) (code_of f) y h in node_made f r.0.spot.place r.0.spot.node y r.1.1

inputs_made : (types : Types) (f : Function) (a : AbsPlace) → Contains (flat_map (input_places types) (inputs_of types f)) a → IsMadeOf a.root a
inputs_made types f a h =
    let r = flat_map_from (input_places types) (inputs_of types f) a h in
    own_root r.0.root a ((tree_made_of r.0.root (tree_if types (target_type types r.0.ty))).0 (root_place r.0.root) (root_made r.0.root) a r.1.1)

elements_made : (types : Types) (f : Function) (e : Element) → Contains (elements_of types f) e → IsMadeElement e
elements_made types f =
    each_cons IsMadeElement element.Null (element.Own ∷ element.Static ∷ (objects ++ (inputs ++ caused_elements f))) tt
    (each_cons IsMadeElement element.Own (element.Static ∷ (objects ++ (inputs ++ caused_elements f))) tt
    (each_cons IsMadeElement element.Static (objects ++ (inputs ++ caused_elements f)) tt
    (each_append IsMadeElement (map element.At (objects_from types f.parameters 0 f.locals)) (map element.At (flat_map (input_places types) (inputs_of types f)) ++ caused_elements f)
    (each_map IsMadeElement element.At (objects_from types f.parameters 0 f.locals) (objects_made types f.parameters 0 f.locals))
    (each_append IsMadeElement (map element.At (flat_map (input_places types) (inputs_of types f))) (caused_elements f)
    (each_map IsMadeElement element.At (flat_map (input_places types) (inputs_of types f)) (inputs_made types f)) (caused_made f)))))
  where
    objects : List Element
    objects = map element.At (objects_from types f.parameters 0 f.locals)

    inputs : List Element
    inputs = map element.At (flat_map (input_places types) (inputs_of types f))

-- so a fact's place is
pub fact_made : (types : Types) (f : Function) (l a : AbsPlace) → IsOf (table_of types f) (fact_at l (element.At a)) → IsMadeOf a.root a
fact_made types f l a of = elements_made types f (element.At a) ((is_of_iff types f (fact_at l (element.At a))).0 of).1

-- ---- what is short is its root with the steps of its path

room_from : (ss : List ℕ) (a : AbsPlace) → length a.steps ≡ 8 → (steps_from a ss).length ≤ 8 → HasRoom (length ss) a
room_from [] a eight short = record { steps = eight; fits = omega (arith, short) }
room_from (s ∷ ss) a eight short = go (λ b h k. room_from ss b h k) (nat_lt a.length 8) refl
  where
    go : ((b : AbsPlace) → length b.steps ≡ 8 → (steps_from b ss).length ≤ 8 → HasRoom (length ss) b) → (b : Bool) → nat_lt a.length 8 ≡ b → HasRoom (length (s ∷ ss)) a
    go again true e =
        let is : stepped a s ≡ longer a s = ap (λ b. if b then longer a s else too_long a) e in
        let rest = again (longer a s) (length-set a.steps a.length s ∙ eight) (subst (λ (b : AbsPlace). (steps_from b ss).length ≤ 8) is short) in
        let fits = rest.fits in record { steps = eight; fits = omega (arith, fits) }
    go again false e =
        let is : stepped a s ≡ too_long a = ap (λ b. if b then longer a s else too_long a) e in
        let rest = again (too_long a) eight (subst (λ (b : AbsPlace). (steps_from b ss).length ≤ 8) is short) in
        let fits = rest.fits in absurd (omega (arith, fits))

path_from : (ss : List ℕ) (a : AbsPlace) → HasRoom (length ss) a → path (steps_from a ss) ≡ path a ++ ss
path_from [] a room = sym (append_none (path a))
path_from (s ∷ ss) a room = path_from ss (stepped a s) (stepped_room (length ss) a s room) ∙ ap (λ xs. xs ++ ss) (stepped_path (length ss) a s room) ∙ append_assoc (path a) (s ∷ []) ss

steps_eight : (ss : List ℕ) (a : AbsPlace) → length a.steps ≡ 8 → length (steps_from a ss).steps ≡ 8
steps_eight [] a eight = eight
steps_eight (s ∷ ss) a eight = steps_eight ss (stepped a s) (go (nat_lt a.length 8))
  where
    go : (b : Bool) → length (if b then longer a s else too_long a).steps ≡ 8
    go true = length-set a.steps a.length s ∙ eight
    go false = eight

pub record IsItsPath (a : AbsPlace) : Type 0 where
  pub eight : length a.steps ≡ 8
  pub made : a ≡ steps_from (root_place a.root) (path a)

pub made_path : (a : AbsPlace) → IsMadeOf a.root a → a.length ≤ 8 → IsItsPath a
made_path a h short =
    let m = h.made short in
    let room = room_from m.0 (root_place a.root) refl (subst (λ (b : AbsPlace). b.length ≤ 8) m.1 short) in record {
      eight = ap (λ (b : AbsPlace). length b.steps) m.1 ∙ steps_eight m.0 (root_place a.root) refl;
      made = m.1 ∙ ap (steps_from (root_place a.root)) (sym (ap path m.1 ∙ path_from m.0 (root_place a.root) room));
    }

-- a step further
pub stepped_its_path : (a : AbsPlace) (s : ℕ) → IsItsPath a → (stepped a s).length ≤ 8 → IsItsPath (stepped a s)
stepped_its_path a s is le = made_path (stepped a s) (own_root a.root (stepped a s) (stepped_made a.root a s (record { root = refl; made = λ short. (path a, is.made) }))) le

-- ---- what the owner at a place has

pub short_of : (es : List Element) → AreShort es → (e : Element) → Contains es e → IsShort e
short_of [] all = each_none IsShort
short_of (x ∷ xs) all = each_cons IsShort x xs all.0 (short_of xs all.1)

module _ (types : Types) (ordered : IsOrdered types) (f : Function) (shaped : IsShaped types f) (short : AreShort (elements_of types f)) (c : Content) (cells : List Cell)
    (objects : (x n : ℕ) → slice_get cells x ≡ Some (Named n) → object_at types f x ≡ true) (inputs : Root → Option Region) (each : (r : Root) (a : Region) → StandsAt inputs r a → IsInput types f r a) where
  pub place_short : (a : AbsPlace) → Contains (elements_of types f) (element.At a) → a.length ≤ 8
  place_short a h = short_of (elements_of types f) short (element.At a) h

  -- the place of an operand is known, and there is an owner
  pub record CanOpen (a : AbsPlace) : Type 0 where
    pub known : Contains (elements_of types f) (element.At (owned_place a))
    pub room : HasRoom 1 a

  -- what lies in a place is known with it
  pub inside_known : (a : AbsPlace) (r : Region) (z : AbsPlace) → IsItsPath a → IsAt types c (RootStands types f (StandsAt inputs) cells) a r → Contains (places_in a (tree_at types r.ty)) z → Contains (elements_of types f) (element.At z)
  inside_known a r z is at_r has = go a.root refl at_r.stands
    where
      of_root : (ro : Root) → a.root ≡ ro → Contains (places_in (root_place ro) (tree_at types at_r.start.ty)) z
      of_root ro e = inner_among types ordered c (path a) (root_place ro) at_r.start r at_r.lies z (subst (λ (b : AbsPlace). Contains (places_in b (tree_at types r.ty)) z) (is.made ∙ ap (λ (q : Root). steps_from (root_place q) (path a)) e) has)

      go : (ro : Root) → a.root ≡ ro → RootStands types f (StandsAt inputs) cells ro at_r.start → Contains (elements_of types f) (element.At z)
      go (root.Input q member) e stands = place_behind types ordered f (root.Input q member) at_r.start (each (root.Input q member) at_r.start stands) z (of_root (root.Input q member) e)
      go (root.Local x) e stands = object_known types ordered f x at_r.start.ty z (objects x at_r.start.object stands.0) (shaped x ∙ stands.2) (of_root (root.Local x) e)

  open_at : (a : AbsPlace) (r : Region) (item : TyId) → IsItsPath a → IsAt types c (RootStands types f (StandsAt inputs) cells) a r → owned_in_type types (slice_get types.types r.ty.0) ≡ Some item → Contains (elements_of types f) (element.At (owned_place a))
  open_at a r item is at_r type = inside_known a r (owned_place a) is at_r (owned_itself types ordered a r.ty item type)

  -- the place itself
  pub known_at : (a : AbsPlace) (r : Region) → IsItsPath a → IsAt types c (RootStands types f (StandsAt inputs) cells) a r → Contains (elements_of types f) (element.At a)
  known_at a r is at_r = inside_known a r a is at_r (place_itself a (tree_at types r.ty))

  -- and a member of it
  pub member_known : (a : AbsPlace) (r : Region) (s : ℕ) (part : TyId) → IsItsPath a → IsAt types c (RootStands types f (StandsAt inputs) cells) a r → s < owned_step → slice_get (members_of types r.ty) s ≡ Some part → Contains (elements_of types f) (element.At (stepped a s))
  member_known a r s part is at_r small typed =
      inside_known a r (stepped a s) is at_r
      (member_among types ordered a r.ty s part typed (stepped a s)
      (subst (λ (p : AbsPlace). Contains (places_in p (tree_at types part)) (stepped a s)) (sym (ap (λ (b : Bool). if b then stepped a s else too_long a) (lt_true s owned_step small))) (place_itself (stepped a s) (tree_at types part))))
    where
      lt_true : (n m : ℕ) → n < m → nat_lt n m ≡ true
      lt_true n m lt = grind (arith, nat_tests)

  pub room_at : (a : AbsPlace) (s : ℕ) → IsItsPath a → Contains (elements_of types f) (element.At (stepped a s)) → HasRoom 1 a
  room_at a s is known = go (nat_lt a.length 8) refl (place_short (stepped a s) known)
    where
      lt_of : (n m : ℕ) → nat_lt n m ≡ true → n + 1 ≤ m
      lt_of n m h = grind (arith, nat_tests)

      go : (b : Bool) → nat_lt a.length 8 ≡ b → (stepped a s).length ≤ 8 → HasRoom 1 a
      go true e le = record { steps = is.eight; fits = lt_of a.length 8 e }
      go false e le = let is_long = ap (λ b. (if b then longer a s else too_long a).length) e in absurd (omega (arith, is_long, le))

  pub can_open : (a : AbsPlace) (r : Region) (item : TyId) → IsItsPath a → IsAt types c (RootStands types f (StandsAt inputs) cells) a r → owned_in_type types (slice_get types.types r.ty.0) ≡ Some item → CanOpen a
  can_open a r item is at_r type = let known = open_at a r item is at_r type in record { known = known; room = room_at a owned_step is known }

  -- a fact's place, and a local's
  pub fact_path : (l a : AbsPlace) → IsOf (table_of types f) (fact_at l (element.At a)) → IsItsPath a
  fact_path l a of = made_path a (fact_made types f l a of) (place_short a ((is_of_iff types f (fact_at l (element.At a))).0 of).1)

  pub local_path : (x : ℕ) → IsItsPath (local_place x)
  local_path x = record { eight = refl; made = refl }
