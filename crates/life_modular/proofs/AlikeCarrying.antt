-- What an edge of a function gives looks only at the types that the function and the heads of what it calls name.
use Rattle.std.proofs.Common.{cond, nat_eq, ◌≡◌, ◌∙◌, ◌++◌, ◌&&◌, ◌||◌, slice_get, ℕ, Bool, List, [], ◌∷◌, Option, Some, None, Contains, if◌then◌else◌, map, option_map, refl, ap, ap₂, subst, sym}
use Rattle.std.specs.List.{flat_map, list_any}
use Rattle.life_types.specs.Trees.{TypeTree, holds_owner}
use Rattle.life_types.specs.TypeTests.{is_pointer, is_unique}
use Rattle.life_types.specs.Types.{Types}
use Rattle.life_types.specs.declared.place.Place.{Place}
use Rattle.life_types.specs.declared.ty.Ty.{Ty}
use Rattle.life_types.specs.declared.ty.Ty.TheVariants as ty
use Rattle.life_types.specs.declared.ty.TyId.{TyId}
use Rattle.life_core.specs.Function.{Function}
use Rattle.life_core.specs.Linked.{spot_of}
use Rattle.life_core.specs.Operands.{Location, Operand, whole}
use Rattle.life_core.specs.Operands as named
use Rattle.life_core.specs.Step.{Step, Live, End, Copy, Move, Call}
use Rattle.life_core.specs.Tree.{Node, Action, Spot}
use Rattle.life_core.specs.declared.instr.Form.{Form}
use Rattle.life_core.specs.declared.program.Local.{Local}
use Rattle.life_core.specs.declared.stmt.Edge.{Edge}
use Rattle.life_pset.specs.Elements.{local_place, moved}
use Rattle.life_pset.specs.Places.{is_within, path}
use Rattle.life_pset.specs.Shapes.{location_type, members_type, operand_type, place_type, tree_if, ty_if}
use Rattle.life_pset.specs.declared.element.AbsPlace.{AbsPlace}
use Rattle.life_pset.specs.declared.element.Cause.{Cause}
use Rattle.life_pset.specs.declared.element.Element.{Element}
use Rattle.life_pset.specs.declared.element.Element.TheVariants as element
use Rattle.life_pset.specs.declared.element.Fact.{Fact}
use Rattle.life_pset.specs.declared.element.Root.{Root}
use Rattle.life_pset.specs.declared.element.Root.TheVariants as root
use Rattle.life_contract.specs.Located.{is_location, located}
use Rattle.life_contract.specs.Signatures.{Signature}
use Rattle.life_rules.specs.Callees.{callee_at, callee_of}
use Rattle.life_rules.specs.Calling.{called_none, called_one, called_two}
use Rattle.life_rules.specs.Carrying.{Gives, after_kill, born, born_facts, copied_facts, copied_from, copied_location, drops, ended_element, ended_facts, ended_root, from_none, from_one, from_two, invalid_facts, is_gone, is_rooted_among, is_killed, killed_facts, killed_through, kills, locations_at, locations_of_local, makes, moved_facts, named_kill, node_none, node_one, node_two, none_at, one_at, one_kill, own_type, two_at, whole_facts, writes}
use Rattle.life_rules.specs.Matching.{fact_at, facts_at, facts_if, given_if, given_over, unless}
use Rattle.life_rules.specs.declared.kill.Kill.{Kill}
use Rattle.life_rules.specs.declared.kill.KillPair.{KillPair}
use Rattle.life_modular.proofs.Renumbered.{causes_of_end_renumbered, is_pointer_renumbered, local_renumbered}
use Rattle.life_modular.specs.Modular.{CallsName}
use Rattle.life_modular.specs.Renumbering.{Renumbering, renumbered_function, renumbered_local, renumbered_signature, renumbered_type}
use Rattle.life_modular.specs.Vocabulary.{Vocabulary, CalleeNames, HaveAlike, Names}
use Rattle.life_modular.proofs.AlikeCalling.{CallsNameAt, callee_renumbered, called_none_same, called_one_same, called_two_same}
use Rattle.life_modular.proofs.AlikeInputs.{local_locations_same}
use Rattle.life_modular.proofs.AlikeLists.{flat_map_same}
use Rattle.life_modular.proofs.AlikeTypes.{IsLocalNamed, IsNamed, is_variable_place_same, local_named, location_type_named, location_type_same, members_type_named, members_type_same, operand_type_named, operand_type_same, place_type_named, place_type_same, tree_if_same, ty_if_same}

module _ {v : Vocabulary} {new : Renumbering} {these those : Types} (alike : HaveAlike v new these those) {f : Function} (names : Names v f) where
  -- ---- the types of what an instruction names

  pub location_ty_same : (l : Location)
      → ty_if those (location_type those (renumbered_function new f) l) ≡ renumbered_type new (ty_if these (location_type these f l))
  location_ty_same l = ap (ty_if those) (location_type_same alike names l) ∙ ty_if_same alike (location_type these f l) (location_type_named alike names l)

  pub place_ty_same : (a : AbsPlace) → ty_if those (place_type those (renumbered_function new f) a) ≡ renumbered_type new (ty_if these (place_type these f a))
  place_ty_same a = ap (ty_if those) (place_type_same alike names a) ∙ ty_if_same alike (place_type these f a) (place_type_named alike names a)

  pub operand_tree_same : (o : Operand) → tree_if those (operand_type those (renumbered_function new f) o) ≡ tree_if these (operand_type these f o)
  operand_tree_same o = ap (tree_if those) (operand_type_same alike names o) ∙ tree_if_same alike (operand_type these f o) (operand_type_named alike names o)

  -- ---- what an instruction kills and drops

  pub kills_same : (place : Place) (i : Step) → kills those (renumbered_function new f) place i ≡ kills these f place i
  kills_same place (Copy to from) = ap (λ (t : TypeTree). if holds_owner t then one_kill (named_kill place to) else one_kill None) (operand_tree_same to)
  kills_same place _ = refl

  pub is_gone_same : (place : Place) (i : Step) (e : Element) → is_gone those (renumbered_function new f) place i e ≡ is_gone these f place i e
  is_gone_same place (End xs) e = refl
  is_gone_same place i e = ap (λ (ks : KillPair). is_killed ks e) (kills_same place i)

  pub drops_same : (place : Place) (i : Step) (x : Fact) → drops those (renumbered_function new f) place i x ≡ drops these f place i x
  drops_same place i x = ap (λ (gone : Bool). gone || writes i x.location) (is_gone_same place i x.element)

  -- ---- what it makes of no fact

  pub locations_at_same : (n x : ℕ) (o : Option Local) → IsLocalNamed v o
      → locations_at those n x (option_map (renumbered_local new) o) ≡ locations_at these n x o
  locations_at_same n x None named = refl
  locations_at_same n x (Some l) named = local_locations_same alike n x l named

  pub locations_of_local_same : (x : ℕ) → locations_of_local those (renumbered_function new f) x ≡ locations_of_local these f x
  locations_of_local_same x =
      ap (locations_at those f.parameters x) (local_renumbered new f x) ∙ locations_at_same f.parameters x (slice_get f.locals x) (local_named alike names x)

  own_type_named : (o : Option Local) → IsLocalNamed v o → IsNamed v (own_type o)
  own_type_named None named = named
  own_type_named (Some l) named = named

  own_type_renumbered : (o : Option Local) → own_type (option_map (renumbered_local new) o) ≡ option_map new.type (own_type o)
  own_type_renumbered None = refl
  own_type_renumbered (Some l) = refl

  born_renumbered : (place : Place) (x : ℕ) (form : Form) (t : Ty) → born place x form (renumbered_type new t) ≡ born place x form t
  born_renumbered place x form ty.View = refl
  born_renumbered place x form _ = refl

  pub born_facts_same : (place : Place) (x : ℕ) (form : Form) (l : AbsPlace)
      → born_facts those (renumbered_function new f) place x form l ≡ born_facts these f place x form l
  born_facts_same place x form l =
      let id : Option TyId = own_type (slice_get f.locals x) in
      let named : IsNamed v id = own_type_named (slice_get f.locals x) (local_named alike names x) in
      ap (λ (o : Option Local). facts_at l (born place x form (ty_if those (members_type those (own_type o) (path l))))) (local_renumbered new f x)
      ∙ ap (λ (whole : Option TyId). facts_at l (born place x form (ty_if those (members_type those whole (path l))))) (own_type_renumbered (slice_get f.locals x))
      ∙ ap (λ (part : Option TyId). facts_at l (born place x form (ty_if those part))) (members_type_same alike id named (path l))
      ∙ ap (λ (t : Ty). facts_at l (born place x form t)) (ty_if_same alike (members_type these id (path l)) (members_type_named alike id named (path l)))
      ∙ ap (facts_at l) (born_renumbered place x form (ty_if these (members_type these id (path l))))

  pub whole_facts_same : (o : Operand) → whole_facts those (renumbered_function new f) o ≡ whole_facts these f o
  whole_facts_same (named.Name l) = ap (λ (is : Bool). given_if is (fact_at (located l) element.Own)) (is_variable_place_same alike names (located l))
  whole_facts_same (named.Through p members) = refl

  -- ---- what it makes of one

  ended_root_same : (place : Place) (xs : List ℕ) (l : AbsPlace) (r : Root) → ended_root (renumbered_function new f) place xs l r ≡ ended_root f place xs l r
  ended_root_same place xs l (root.Local x) =
      ap (λ (causes : List Cause). cond (list_any (λ (y : ℕ). nat_eq y x) xs) (invalid_facts l causes) []) (causes_of_end_renumbered new f place x)
  ended_root_same place xs l (root.Input parameter member) = refl

  ended_element_same : (place : Place) (xs : List ℕ) (l : AbsPlace) (e : Element)
      → ended_element (renumbered_function new f) place xs l e ≡ ended_element f place xs l e
  ended_element_same place xs l (element.At b) = ended_root_same place xs l b.root
  ended_element_same place xs l _ = refl

  pub ended_facts_same : (place : Place) (xs : List ℕ) (x : Fact) → ended_facts (renumbered_function new f) place xs x ≡ ended_facts f place xs x
  ended_facts_same place xs x =
      ap (λ (made : List Fact). cond (is_rooted_among xs x.location) [] made) (ended_element_same place xs x.location x.element)

  pub copied_from_same : (k : Option Kill) (to from : AbsPlace) (x : Fact)
      → copied_from those (renumbered_function new f) k to from x ≡ copied_from these f k to from x
  copied_from_same k to from x =
      ap
      (λ (pointer : Bool). given_if (is_within from x.location && pointer) (fact_at (copied_location from to x.location) (after_kill k x.element)))
      (ap is_pointer (place_ty_same x.location) ∙ is_pointer_renumbered new (ty_if these (place_type these f x.location)))

  pub copied_facts_same : (k : Option Kill) (to from : Operand) (x : Fact)
      → copied_facts those (renumbered_function new f) k to from x ≡ copied_facts these f k to from x
  copied_facts_same k (named.Name to) (named.Name from) x = copied_from_same k (located to) (located from) x
  copied_facts_same k _ _ x = refl

  is_unique_renumbered : (t : Ty) → is_unique (renumbered_type new t) ≡ is_unique t
  is_unique_renumbered (ty.Unique target) = refl
  is_unique_renumbered _ = refl

  pub moved_facts_same : (to : Operand) (y : ℕ) (x : Fact) → moved_facts those (renumbered_function new f) to y x ≡ moved_facts these f to y x
  moved_facts_same (named.Name to) y x =
      ap
      (λ (unique : Bool). facts_if (is_location (whole y) x.location && unique) (located to) (given_over x.element))
      (ap is_unique (location_ty_same to) ∙ is_unique_renumbered (ty_if these (location_type these f to)))
  moved_facts_same (named.Through p members) y x = refl

  module _ (sigs : List Signature) where
    -- ---- of an instruction

    pub from_none_same : (place : Place) (i : Step) → CalleeNames v (callee_of sigs i)
        → from_none (map (renumbered_signature new) sigs) those (renumbered_function new f) place i ≡ from_none sigs these f place i
    from_none_same place (Live x form) called =
        ap (flat_map (born_facts those (renumbered_function new f) place x form)) (locations_of_local_same x)
        ∙ flat_map_same (born_facts those (renumbered_function new f) place x form) (born_facts these f place x form) (locations_of_local these f x)
        (λ l has. born_facts_same place x form l)
    from_none_same place (Copy to from) called = whole_facts_same to
    from_none_same place (Move to y) called = ap (λ (xs : List Fact). fact_at (local_place y) (element.Moved (moved place y)) ∷ xs) (whole_facts_same to)
    from_none_same place (Call target g xs) called =
        ap (λ (callee : Option Signature). called_none those callee target) (callee_renumbered new sigs g.0)
        ∙ called_none_same alike (slice_get sigs g.0) called target
    from_none_same place _ called = refl

    pub makes_same : (place : Place) (i : Step) (x : Fact) → CalleeNames v (callee_of sigs i)
        → makes (map (renumbered_signature new) sigs) those (renumbered_function new f) place i x ≡ makes sigs these f place i x
    makes_same place (Copy to from) x called =
        ap (λ (ks : KillPair). copied_facts those (renumbered_function new f) ks.first to from x) (kills_same place (Copy to from))
        ∙ copied_facts_same (kills these f place (Copy to from)).first to from x
    makes_same place (Move to y) x called = moved_facts_same to y x
    makes_same place (Call target g xs) x called =
        ap (λ (callee : Option Signature). called_one those callee xs target x) (callee_renumbered new sigs g.0)
        ∙ called_one_same alike (slice_get sigs g.0) called xs target x
    makes_same place (End ys) x called = ended_facts_same place ys x
    makes_same place _ x called = refl

    pub from_one_same : (place : Place) (i : Step) (x : Fact) → CalleeNames v (callee_of sigs i)
        → from_one (map (renumbered_signature new) sigs) those (renumbered_function new f) place i x ≡ from_one sigs these f place i x
    from_one_same place i x called =
        ap₂ (λ (kept others : List Fact). kept ++ others)
        (ap (λ (gone : Bool). unless gone x) (drops_same place i x))
        (ap₂ (λ (killed made : List Fact). killed ++ made) (ap (λ (ks : KillPair). killed_facts ks i x) (kills_same place i)) (makes_same place i x called))

    pub from_two_same : (place : Place) (i : Step) (x y : Fact) → CalleeNames v (callee_of sigs i)
        → from_two (map (renumbered_signature new) sigs) those (renumbered_function new f) place i x y ≡ from_two sigs these f place i x y
    from_two_same place (Copy to from) x y called = ap (λ (t : TypeTree). if holds_owner t then killed_through place (Copy to from) to x y else []) (operand_tree_same to)
    from_two_same place (Call target g xs) x y called =
        ap (λ (callee : Option Signature). called_two those place g.0 callee xs target x y) (callee_renumbered new sigs g.0)
        ∙ called_two_same alike place g.0 (slice_get sigs g.0) called xs target x y
    from_two_same place _ x y called = refl

    -- ---- of a point

    pub node_none_same : (place : Place) (n : Node) → CalleeNames v (callee_at sigs n)
        → node_none (map (renumbered_signature new) sigs) those (renumbered_function new f) place n ≡ node_none sigs these f place n
    node_none_same place (Action i) called = from_none_same place i called
    node_none_same place _ called = refl

    pub node_one_same : (place : Place) (branch : Option Bool) (n : Node) (x : Fact) → CalleeNames v (callee_at sigs n)
        → node_one (map (renumbered_signature new) sigs) those (renumbered_function new f) place branch n x ≡ node_one sigs these f place branch n x
    node_one_same place branch (Action i) x called = from_one_same place i x called
    node_one_same place branch _ x called = refl

    pub node_two_same : (place : Place) (n : Node) (x y : Fact) → CalleeNames v (callee_at sigs n)
        → node_two (map (renumbered_signature new) sigs) those (renumbered_function new f) place n x y ≡ node_two sigs these f place n x y
    node_two_same place (Action i) x y called = from_two_same place i x y called
    node_two_same place _ x y called = refl

    pub none_at_same : (o : Option Spot) → CallsNameAt v sigs o
        → none_at (map (renumbered_signature new) sigs) those (renumbered_function new f) o ≡ none_at sigs these f o
    none_at_same None called = refl
    none_at_same (Some s) called = node_none_same s.place s.node (called s refl)

    pub one_at_same : (branch : Option Bool) (o : Option Spot) (x : Fact) → CallsNameAt v sigs o
        → one_at (map (renumbered_signature new) sigs) those (renumbered_function new f) branch o x ≡ one_at sigs these f branch o x
    one_at_same branch None x called = refl
    one_at_same branch (Some s) x called = node_one_same s.place branch s.node x (called s refl)

    pub two_at_same : (o : Option Spot) (x y : Fact) → CallsNameAt v sigs o
        → two_at (map (renumbered_signature new) sigs) those (renumbered_function new f) o x y ≡ two_at sigs these f o x y
    two_at_same None x y called = refl
    two_at_same (Some s) x y called = node_two_same s.place s.node x y (called s refl)

    -- ---- of an edge

    pub gives_alike : CallsName v sigs f → (edge : Edge) (premises : List Fact) (x : Fact) → Gives sigs these f edge premises x
        → Gives (map (renumbered_signature new) sigs) those (renumbered_function new f) edge premises x
    gives_alike called edge [] x given = subst (λ (xs : List Fact). Contains xs x) (sym (none_at_same (spot_of f edge.from) (called edge.from))) given
    gives_alike called edge (a ∷ []) x given = subst (λ (xs : List Fact). Contains xs x) (sym (one_at_same edge.branch (spot_of f edge.from) a (called edge.from))) given
    gives_alike called edge (a ∷ b ∷ []) x given = subst (λ (xs : List Fact). Contains xs x) (sym (two_at_same (spot_of f edge.from) a b (called edge.from))) given
    gives_alike called edge (a ∷ b ∷ c ∷ more) x given = given
