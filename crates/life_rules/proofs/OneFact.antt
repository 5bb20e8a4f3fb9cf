-- What comes of one fact is what stays at its location, and what is made where that is read.
use Rattle.std.proofs.Common.{◌≡◌, ℕ, Bool, true, false, true≢false, cond, if◌then◌else◌, List, [], ◌∷◌, ◌++◌, Option, Some, None, refl, ap, sym, ◌∙◌}
use Rattle.std.specs.Prelude.{◌&&◌, ◌||◌, map, nat_eq, not, slice_get}
use Rattle.std.specs.List.{list_any}
use Rattle.std.proofs.Common.{append-nil, append_assoc}
use Rattle.life_types.specs.Trees.{holds_owner}
use Rattle.life_types.specs.TypeTests.{is_pointer, is_unique}
use Rattle.life_types.specs.Types.{Types}
use Rattle.life_types.specs.declared.place.Place.{Place}
use Rattle.life_core.specs.Function.{Function}
use Rattle.life_core.specs.Operands.{Argument, Base, Location, Name, Operand, Source, Through, whole}
use Rattle.life_core.specs.Operands as named
use Rattle.life_core.specs.Step.{Step, End, Copy, Move, Aim, Repoint, Advance, Cut, Cursor, Changes, Make, Call, Change, Erase, Test, NonZero, NotNull}
use Rattle.life_core.specs.Step as step
use Rattle.life_core.specs.Tree.{Node, Action, Question, Return, Stop, Spot}
use Rattle.life_pset.specs.Elements.{causes_of_end}
use Rattle.life_pset.specs.Places.{is_within}
use Rattle.life_pset.specs.Shapes.{location_type, operand_type, place_type, tree_if, ty_if}
use Rattle.life_pset.specs.declared.element.AbsPlace.{AbsPlace}
use Rattle.life_pset.specs.declared.element.Cause.{Cause}
use Rattle.life_pset.specs.declared.element.Element.{Element}
use Rattle.life_pset.specs.declared.element.Element.TheVariants as element
use Rattle.life_pset.specs.declared.element.Fact.{Fact}
use Rattle.life_pset.specs.declared.element.Root.{Root}
use Rattle.life_pset.specs.declared.element.Root.TheVariants as root
use Rattle.life_contract.specs.Arguments.{is_argument_of, is_in_arguments}
use Rattle.life_contract.specs.Inputs.{inputs_of_signature}
use Rattle.life_contract.specs.Located.{is_location, is_root, located}
use Rattle.life_contract.specs.Signatures.{Signature}
use Rattle.life_rules.proofs.Calls.{no_argument, or_first, or_second}
use Rattle.life_rules.proofs.Nothing.{cond_none, flat_map_empty}
use Rattle.life_rules.specs.Calling.{called_one}
use Rattle.life_rules.specs.Carrying.{aimed_from, copied_from, element_from, ended_element, ended_root, from_one, invalid_facts, is_gone, is_killed, is_killed_by, is_rooted_among, killed_fact, killed_facts, kills, named_kill, node_one, one_at, one_kill, position_facts, reached_from, stops_at, taken, writes}
use Rattle.life_rules.specs.Matching.{fact_at, given_if, is_held, is_null, points_among, points_under, unless}
use Rattle.life_rules.specs.Staying.{after_change, after_changes, after_end, base_reads, ended_in, goes_through, has_kill, made, made_at, moves, node_made, node_moves, node_reads, node_removes, node_stays, node_writes, reads, source_reads, spot_moves, spot_reads, spot_removes, spot_writes, staying, stays}
use Rattle.life_rules.specs.declared.kill.Kill.{Kill}
use Rattle.life_rules.specs.declared.kill.KillPair.{KillPair}

-- ---- one fact: what stays

-- a fact stays where its element does and its location isn't written
kept_fact : (gone written : Bool) (x : Fact) → unless (gone || written) x ≡ cond written [] (map (fact_at x.location) (cond gone [] (x.element ∷ [])))
kept_fact true true x = refl
kept_fact true false x = refl
kept_fact false true x = refl
kept_fact false false x = refl

given_unwritten : (given written : Bool) (l : AbsPlace) (e : Element) → given_if (given && not written) (fact_at l e) ≡ cond written [] (map (fact_at l) (cond given (e ∷ []) []))
given_unwritten true true l e = refl
given_unwritten true false l e = refl
given_unwritten false true l e = refl
given_unwritten false false l e = refl

nothing : (written : Bool) → cond {A = List Fact} written [] [] ≡ []
nothing true = refl
nothing false = refl

changed_fact : (k : Option Kill) (i : Step) (x : Fact) → killed_fact k i x ≡ cond (writes i x.location) [] (map (fact_at x.location) (after_change k x.element))
changed_fact None i x = sym (nothing (writes i x.location))
changed_fact (Some k) i x = given_unwritten (points_under k.owner x.element) (writes i x.location) x.location (element.Invalid k.cause)

map_both : {A B : Type 0} (g : A → B) (xs ys : List A) → map g (xs ++ ys) ≡ map g xs ++ map g ys
map_both g [] ys = refl
map_both g (x ∷ xs) ys = ap (λ zs. g x ∷ zs) (map_both g xs ys)

both_unwritten : (written : Bool) (l : AbsPlace) (xs ys : List Element) → cond written [] (map (fact_at l) (xs ++ ys)) ≡ cond written [] (map (fact_at l) xs) ++ cond written [] (map (fact_at l) ys)
both_unwritten true l xs ys = refl
both_unwritten false l xs ys = map_both (fact_at l) xs ys

changed_facts : (ks : KillPair) (i : Step) (x : Fact) → killed_facts ks i x ≡ cond (writes i x.location) [] (map (fact_at x.location) (after_changes ks x.element))
changed_facts ks i x =
    rw (changed_fact ks.first i x, changed_fact ks.second i x)
    (sym (both_unwritten (writes i x.location) x.location (after_change ks.first x.element) (after_change ks.second x.element)))

-- what is kept and what it becomes are what stays, before what is made
together : (gone written : Bool) (x : Fact) (become : List Element) (facts made read : List Fact) → facts ≡ cond written [] (map (fact_at x.location) become) → made ≡ read
    → unless (gone || written) x ++ (facts ++ made) ≡ cond written [] (map (fact_at x.location) (cond gone [] (x.element ∷ []) ++ become)) ++ read
together gone written x become facts made read h k =
    rw (h, k, kept_fact gone written x, both_unwritten written x.location (cond gone [] (x.element ∷ [])) become)
    (sym (append_assoc (cond written [] (map (fact_at x.location) (cond gone [] (x.element ∷ [])))) (cond written [] (map (fact_at x.location) become)) read))

-- an end
ended_at : (f : Function) (place : Place) (xs : List ℕ) (l : AbsPlace) (r : Root) → ended_root f place xs l r ≡ map (fact_at l) (ended_in f place xs r)
ended_at f place xs l (root.Local x) = chosen (list_any (λ y. nat_eq y x) xs) (causes_of_end f place x) where
  invalid : (causes : List Cause) → invalid_facts l causes ≡ map (fact_at l) (map element.Invalid causes)
  invalid [] = refl
  invalid (c ∷ cs) = ap (λ facts. fact_at l (element.Invalid c) ∷ facts) (invalid cs)

  chosen : (here : Bool) (causes : List Cause) → cond here (invalid_facts l causes) [] ≡ map (fact_at l) (cond here (map element.Invalid causes) [])
  chosen true causes = invalid causes
  chosen false causes = refl
ended_at f place xs l (root.Input parameter member) = refl

ended_of : (f : Function) (place : Place) (xs : List ℕ) (l : AbsPlace) (e : Element) → ended_element f place xs l e ≡ map (fact_at l) (after_end f place xs e)
ended_of f place xs l (element.At b) = ended_at f place xs l b.root
ended_of f place xs l _ = refl

-- ---- one fact: nothing is made where it isn't read

unread_through : (p : Location) (owned : Bool) (o : Operand) (x : Fact) → goes_through o x.location ≡ false → reached_from p owned o x ≡ []
unread_through p owned (Name l) x h = refl
unread_through p owned (Through q members) x h = cond_none (is_location q x.location) _ h

unread_source : (p : Location) (s : Source) (x : Fact) → source_reads s x.location ≡ false → aimed_from p s x ≡ []
unread_source p (named.Place o) x h = unread_through p false o x h
unread_source p (named.Whole o) x h = unread_through p true o x h
unread_source p (named.Get u) x h = cond_none (is_location u x.location) _ h
unread_source p _ x h = refl

unread_base : (p : Location) (b : Base) (x : Fact) → base_reads b x.location ≡ false → element_from p b x ≡ []
unread_base p (named.Owner o) x h = unread_through p true o x h
unread_base p (named.Pointer q) x h = cond_none (is_location q x.location) _ h

unread_copy : (types : Types) (f : Function) (k : Option Kill) (to from : AbsPlace) (x : Fact) → is_within from x.location ≡ false → copied_from types f k to from x ≡ []
unread_copy types f k to from x h = cond_none (is_within from x.location && is_pointer (ty_if types (place_type types f x.location))) _ (rw h refl)

unread_call : (types : Types) (sig : Option Signature) (xs : List Argument) (target : Option Location) (x : Fact) → is_in_arguments xs x.location ≡ false → called_one types sig xs target x ≡ []
unread_call types None xs target x h = refl
unread_call types (Some sig) xs None x h = refl
unread_call types (Some sig) xs (Some l) x h = flat_map_empty _ (inputs_of_signature types sig) (λ i. cond_none (is_argument_of xs i x.location) _ (no_argument xs i x.location h))

unread : (sigs : List Signature) (types : Types) (f : Function) (place : Place) (i : Step) (x : Fact) → reads i x.location ≡ false → made sigs types f place i x ≡ []
unread sigs types f place (Copy (Name to) (Name from)) x h = unread_copy types f (kills types f place (Copy (Name to) (Name from))).first (located to) (located from) x h
unread sigs types f place (Move (Name to) y) x h = cond_none (is_location (whole y) x.location && is_unique (ty_if types (location_type types f to))) _ (rw h refl)
unread sigs types f place (Move (Through p members) y) x h = refl
unread sigs types f place (Aim p s) x h = unread_source p s x h
unread sigs types f place (Repoint p q) x h = cond_none (is_location q x.location) _ h
unread sigs types f place (Advance p q r direction) x h = cond_none (is_location q x.location) _ h
unread sigs types f place (Cut p q r count) x h = cond_none (is_location q x.location) _ h
unread sigs types f place (step.Element p b which) x h = unread_base p b x h
unread sigs types f place (Cursor p b end) x h = unread_base p b x h
unread sigs types f place (Changes (Through q members) (Erase at into)) x h = cond_none (is_location q x.location) _ h
unread sigs types f place (Changes (Name l) (Erase at into)) x h = refl
unread sigs types f place (Call target g xs) x h = unread_call types (slice_get sigs g.0) xs target x h
unread sigs types f place _ x h = refl

where_read : (read : Bool) (facts : List Fact) → (read ≡ false → facts ≡ []) → facts ≡ cond read facts []
where_read true facts none = refl
where_read false facts none = none refl

-- ---- one fact

step_one : (sigs : List Signature) (types : Types) (f : Function) (place : Place) (i : Step) (x : Fact)
    → from_one sigs types f place i x ≡ cond (writes i x.location) [] (map (fact_at x.location) (stays types f place i x.element)) ++ cond (reads i x.location) (made sigs types f place i x) []
step_one sigs types f place (End xs) x =
    let w = is_rooted_among xs x.location in
    let ended = cond w [] (ended_element f place xs x.location x.element) in
    ap (λ facts. unless (points_among xs x.element || w) x ++ facts) (sym (append-nil ended))
    ∙ together (points_among xs x.element) w x (after_end f place xs x.element) ended [] [] (ap (λ facts. cond w [] facts) (ended_of f place xs x.location x.element)) refl
step_one sigs types f place i x =
    together (is_killed (kills types f place i) x.element) (writes i x.location) x (after_changes (kills types f place i) x.element) (killed_facts (kills types f place i) i x) (made sigs types f place i x) _
    (changed_facts (kills types f place i) i x)
    (where_read (reads i x.location) (made sigs types f place i x) (unread sigs types f place i x))

-- what a test passes on stays or is made
passed : (here : Bool) (x : Fact) → x ∷ [] ≡ cond here [] (x ∷ []) ++ cond here (x ∷ []) []
passed true x = refl
passed false x = refl

tested : (here stops : Bool) (x : Fact) → unless (here && stops) x ≡ cond here [] (x ∷ []) ++ cond here (unless (here && stops) x) []
tested true stops x = refl
tested false stops x = refl

node_one_as : (sigs : List Signature) (types : Types) (f : Function) (place : Place) (branch : Option Bool) (n : Node) (x : Fact)
    → node_one sigs types f place branch n x ≡ cond (node_writes n x.location) [] (map (fact_at x.location) (node_stays types f place n x.element)) ++ cond (node_reads n x.location) (node_made sigs types f place branch n x) []
node_one_as sigs types f place branch (Action i) x = step_one sigs types f place i x
node_one_as sigs types f place branch (Question (NonZero r)) x = refl
node_one_as sigs types f place None (Question (NotNull p)) x = passed (is_location p x.location) x
node_one_as sigs types f place (Some holds) (Question (NotNull p)) x = tested (is_location p x.location) (cond holds (is_null x.element) (is_held x.element)) x
node_one_as sigs types f place branch Return x = refl
node_one_as sigs types f place branch Stop x = refl

pub ones : (sigs : List Signature) (types : Types) (f : Function) (branch : Option Bool) (spot : Option Spot) (x : Fact)
    → one_at sigs types f branch spot x ≡ cond (spot_writes spot x.location) [] (map (fact_at x.location) (staying types f spot x.element)) ++ cond (spot_reads spot x.location) (made_at sigs types f branch spot x) []
ones sigs types f branch None x = refl
ones sigs types f branch (Some s) x = node_one_as sigs types f s.place branch s.node x

-- ---- where nothing is changed by name, an element stays as it is

named_none : (place : Place) (o : Operand) → has_kill (named_kill place o) ≡ false → named_kill place o ≡ None
named_none place (Name l) h = absurd (true≢false h)
named_none place (Through p members) h = refl

copied_none : (changes : Bool) (place : Place) (o : Operand) → has_kill (if changes then one_kill (named_kill place o) else one_kill None).first ≡ false
    → (if changes then one_kill (named_kill place o) else one_kill None) ≡ one_kill None
copied_none true place o h = ap one_kill (named_none place o h)
copied_none false place o h = refl

no_kill : (types : Types) (f : Function) (place : Place) (i : Step) → has_kill (kills types f place i).first ≡ false → kills types f place i ≡ one_kill None
no_kill types f place (Copy to from) h = copied_none (holds_owner (tree_if types (operand_type types f to))) place to h
no_kill types f place (Move to y) h = absurd (true≢false h)
no_kill types f place (Changes o change) h = ap one_kill (named_none place o h)
no_kill types f place (Make u what) h = absurd (true≢false h)
no_kill types f place _ h = refl

unchanged : (ks : KillPair) (e : Element) → ks ≡ one_kill None → cond (is_killed ks e) [] (e ∷ []) ++ after_changes ks e ≡ e ∷ []
unchanged ks e h = rw h refl

step_still : (types : Types) (f : Function) (place : Place) (i : Step) (e : Element) → moves types f place i ≡ false → stays types f place i e ≡ e ∷ []
step_still types f place (End xs) e h = absurd (true≢false h)
step_still types f place i e h = unchanged (kills types f place i) e (no_kill types f place i h)

node_still : (types : Types) (f : Function) (place : Place) (n : Node) (e : Element) → node_moves types f place n ≡ false → node_stays types f place n e ≡ e ∷ []
node_still types f place (Action i) e h = step_still types f place i e h
node_still types f place (Question t) e h = refl
node_still types f place Return e h = refl
node_still types f place Stop e h = refl

pub still : (types : Types) (f : Function) (spot : Option Spot) → spot_moves types f spot ≡ false → (e : Element) → staying types f spot e ≡ e ∷ []
still types f None h e = absurd (true≢false h)
still types f (Some s) h e = node_still types f s.place s.node e h

-- ---- an element that stays is itself alone

not_ended : (f : Function) (place : Place) (xs : List ℕ) (e : Element) → points_among xs e ≡ false → after_end f place xs e ≡ []
not_ended f place xs (element.At b) h = not_ended_in b.root h
  where
    not_ended_in : (r : Root) → list_any (λ y. is_root y r) xs ≡ false → ended_in f place xs r ≡ []
    not_ended_in (root.Local x) h = cond_none _ _ h
    not_ended_in (root.Input parameter member) h = refl
not_ended f place xs _ h = refl

not_killed : (k : Option Kill) (e : Element) → is_killed_by k e ≡ false → after_change k e ≡ []
not_killed None e h = refl
not_killed (Some k) e h = cond_none _ _ h

not_changed : (ks : KillPair) (e : Element) → is_killed ks e ≡ false → cond (is_killed ks e) [] (e ∷ []) ++ after_changes ks e ≡ e ∷ []
not_changed ks e h =
    rw (h, not_killed ks.first e (or_first (is_killed_by ks.first e) _ h), not_killed ks.second e (or_second (is_killed_by ks.first e) _ h)) refl

step_kept : (types : Types) (f : Function) (place : Place) (i : Step) (e : Element) → is_gone types f place i e ≡ false → stays types f place i e ≡ e ∷ []
step_kept types f place (End xs) e h = rw (h, not_ended f place xs e h) refl
step_kept types f place i e h = not_changed (kills types f place i) e h

node_kept : (types : Types) (f : Function) (place : Place) (n : Node) (e : Element) → node_removes types f place n e ≡ false → node_stays types f place n e ≡ e ∷ []
node_kept types f place (Action i) e h = step_kept types f place i e h
node_kept types f place (Question t) e h = refl
node_kept types f place Return e h = refl
node_kept types f place Stop e h = refl

pub kept : (types : Types) (f : Function) (spot : Option Spot) (e : Element) → spot_removes types f spot e ≡ false → staying types f spot e ≡ e ∷ []
kept types f None e h = absurd (true≢false h)
kept types f (Some s) e h = node_kept types f s.place s.node e h
