-- What holds of what typing makes of a statement, of its tree and of whether its text ends; and that blocks, branches and what stands around a statement keep it.
use Rattle.std.proofs.Common.{◌≡◌, ℕ, Bool, true, false, ◌&&◌, List, [], ◌∷◌, map, Option, None, Some, Ok, refl, ap, ◌∙◌}
use Rattle.std.proofs.Math.Bool.{and_assoc}
use Rattle.life_types.specs.Types.{Types}
use Rattle.life_types.specs.declared.place.Place.{Place}
use Rattle.life_types.specs.declared.ty.NameId.{NameId}
use Rattle.life_tree.specs.Rules as rules
use Rattle.life_tree.specs.Tree.{Tree, ◌⨾◌, construct, node}
use Rattle.life_tree.specs.Views.{BranchView, ElseIfView, block_item_tree, branch_view, else_if_view, else_part_tree, list_tree}
use Rattle.life_tree.specs.declared.fixed.TheConstants as fixed
use Rattle.life_tree.specs.declared.stmt.BlockItem.{BlockItem}
use Rattle.life_tree.specs.declared.stmt.Branch.{Branch}
use Rattle.life_tree.specs.declared.stmt.ElseIf.{ElseIf}
use Rattle.life_typed.specs.Ends as typed_ends
use Rattle.life_typed.specs.Ends.{ends}
use Rattle.life_typed.specs.TypedStatement as typed
use Rattle.life_typed.specs.TypedStatement.{StmtForm, stmt_forms}
use Rattle.life_names.specs.Checked.{Checked, ◌>>=◌}
use Rattle.life_names.specs.Environment.{Scope, forgotten}
use Rattle.life_type_stmt.specs.Ends as texts
use Rattle.life_type_stmt.specs.Ends.{branch_ends, else_if_ends, item_ends}
use Rattle.life_type_stmt.specs.Statements.{ItemPart, Part, block_part, branch_part, else_if_part, in_turn, item_part, name_before, names_of, optional_part, parts_of}
use Rattle.life_unique.proofs.Lists.{Both}
use Rattle.life_well_typed.specs.Statements.{is_one}
use Rattle.life_typing_laws.proofs.Behind.{Behind, MadeBehind, still_named}
use Rattle.life_typing_laws.proofs.Domains.{Around}
use Rattle.life_typing_laws.proofs.Each.{each_of}
use Rattle.life_typing_laws.proofs.Loops.{if_good, if_of}
use Rattle.life_typing_laws.proofs.NamedTrees.{IsNamedTree}
use Rattle.life_typing_laws.proofs.Statements.{Alone, GoodItem, GoodPart}
use Rattle.life_typing_laws.proofs.Staying.{stays_behind, stays_not, stays_on, stays_then}
use Rattle.life_typing_laws.proofs.Turns.{GoodBranch}
use Rattle.life_typing_laws.proofs.Yields.{Yields, yields_behind, yields_ok, yields_then}

-- ---- what is said of a statement

-- it is one statement unless it declares these names, and ends as its text does: control can't run past the one where it can't run past the other
pub record IsSaid (e : Bool) (names : List NameId) (s : StmtForm) : Type 0 where
  pub alone : names ≡ [] → is_one s ≡ true
  pub ended : ends s ≡ e

abbrev pub Said : (ℕ → Type 0) → Bool → List NameId → Scope → StmtForm × Scope → Type 0
Said Named e names scope = Behind StmtForm (IsSaid e names) Named names scope

-- .. wherever it is checked
abbrev pub Says : (ℕ → Type 0) → Bool → List NameId → Part → Type 0
Says Named e names part = (around : Around) (scope : Scope) (types : Types) → Yields (Said Named e names scope) (part around scope types)

abbrev pub SaysOf : Tree → Bool → List NameId → Part → Type 0
SaysOf t e names part = Says (λ n. IsNamedTree n t) e names part

-- ---- what holds of a part

-- what it gives is well typed
pub record PartLaws (part : Part) (t : Tree) (e : Bool) : Type 0 where
  pub good : GoodPart part
  pub says : SaysOf t e [] part

pub record ItemLaws (i : ItemPart) (t : Tree) (e : Bool) : Type 0 where
  pub good : GoodItem i
  pub says : SaysOf t e (name_before i.declares []) i.part

pub record BranchLaws (part : Part) (b : BranchView) (e : Bool) : Type 0 where
  pub good : GoodBranch part
  pub says : SaysOf b.body e [] part

abbrev pub ElseIfLaws : Part → ElseIfView → Bool → Type 0
ElseIfLaws part v e = BranchLaws part v.branch e

-- one statement
pub alone_by : {Named : ℕ → Type 0} {e : Bool} {part : Part} → Says Named e [] part → Alone part
alone_by says around scope types x h = (says around scope types x h).is.alone refl

-- ---- what gives it

module _ {Named : ℕ → Type 0} {e : Bool} (scope : Scope) where
  -- the scope is as it was
  pub still : (s : StmtForm) (types : Types) → is_one s ≡ true → ends s ≡ e → Yields (Said Named e [] scope) (Ok ((s, scope), types))
  still s types alone ended =
      yields_ok (Said Named e [] scope) (s, scope) types (record { stays = stays_not scope; named = λ n named all. all; is = record { alone = λ none. alone; ended = ended } })

  -- what is said in a tree inside
  pub again : {NamedInner : ℕ → Type 0} {names : List NameId} {c : Checked (StmtForm × Scope)} → Yields (Said NamedInner e names scope) c → ((n : ℕ) → Named n → NamedInner n) → Yields (Said Named e names scope) c
  again held named x gave = let b = held x gave in record { stays = b.stays; named = λ n m. b.named n (named n m); is = record { alone = b.is.alone; ended = b.is.ended } }

  -- .. behind what is made in it
  pub behind_made : {A : Type 0} (c : Checked A) (rest : A × Types → Checked (StmtForm × Scope)) → ((y : A × Types) → Yields (Said Named e [] scope) (rest y)) → Yields (Said Named e [] scope) (c >>= rest)
  behind_made c rest behind = yields_behind (Said Named e [] scope) c rest behind

  pub made : {A : Type 0} (c : Checked A) (form : A → StmtForm) → ((y : A) → is_one (form y) ≡ true) → ((y : A) → ends (form y) ≡ e) → Yields (Said Named e [] scope) (c >>= (λ y. Ok ((form y.0, scope), y.1)))
  made c form alone ended = behind_made c (λ y. Ok ((form y.0, scope), y.1)) (λ y. still (form y.0) y.1 (alone y.0) (ended y.0))

  -- around a statement
  pub around_said : {NamedInner : ℕ → Type 0} {f : Bool} (c : Checked (StmtForm × Scope)) (form : StmtForm → StmtForm) → Yields (Said NamedInner f [] scope) c → ((n : ℕ) → Named n → NamedInner n)
      → ((s : StmtForm) → IsSaid f [] s → IsSaid e [] (form s)) → Yields (Said Named e [] scope) (c >>= (λ y. Ok ((form y.0.0, y.0.1), y.1)))
  around_said {NamedInner = NamedInner} {f = f} c form held named is =
      yields_then (Said NamedInner f [] scope) (Said Named e [] scope) c _ held (λ y b.
      yields_ok (Said Named e [] scope) (form y.0.0, y.0.1) y.1 (record { stays = b.stays; named = λ n m. b.named n (named n m); is = is y.0.0 b.is }))

  -- .. behind what declares these names, which are forgotten behind it
  pub loop_said : {A : Type 0} {NamedFirst NamedInner : ℕ → Type 0} {f : Bool} (names : List NameId) (x : A × Scope) (c : Checked (StmtForm × Scope)) (form : StmtForm → StmtForm)
      → MadeBehind A NamedFirst names scope x → Yields (Said NamedInner f [] x.1) c → ((n : ℕ) → Named n → NamedFirst n × NamedInner n) → ((s : StmtForm) → IsSaid f [] s → IsSaid e [] (form s))
      → Yields (Said Named e [] scope) (c >>= (λ y. Ok ((form y.0.0, forgotten names y.0.1), y.1)))
  loop_said {NamedInner = NamedInner} {f = f} names x c form first held named is =
      yields_then (Said NamedInner f [] x.1) (Said Named e [] scope) c _ held (λ y b.
      yields_ok (Said Named e [] scope) (form y.0.0, forgotten names y.0.1) y.1 (record {
        stays = stays_behind names scope y.0.1 (stays_then names scope x.1 y.0.1 first.stays b.stays);
        named = λ n m all. still_named n names y.0.1 (b.named n (named n m).1 (first.named n (named n m).0 all));
        is = is y.0.0 b.is;
      }))

-- ---- one after the other

abbrev AllSaid : (ℕ → Type 0) → List Bool → List NameId → Scope → List StmtForm × Scope → Type 0
AllSaid Named es names scope = Behind (List StmtForm) (λ ss. map ends ss ≡ es) Named names scope

none_said : {Named : ℕ → Type 0} (scope : Scope) (types : Types) → Yields (AllSaid Named [] [] scope) (Ok (([], scope), types))
none_said {Named = Named} scope types = yields_ok (AllSaid Named [] [] scope) ([], scope) types (record { stays = stays_not scope; named = λ n named all. all; is = refl })

module _ {Named NamedOthers : ℕ → Type 0} {e : Bool} {es : List Bool} (declares : Option NameId) (names : List NameId) (part : Part) (ps : List Part) (around : Around) (scope : Scope) (types : Types) where
  more_said : Yields (Said Named e (name_before declares []) scope) (part around scope types) → ((s : Scope) (t : Types) → Yields (AllSaid NamedOthers es names s) (in_turn ps around s t))
      → Yields (AllSaid (λ n. Named n × NamedOthers n) (e ∷ es) (name_before declares names) scope) (in_turn (part ∷ ps) around scope types)
  more_said one others =
      yields_then (Said Named e (name_before declares []) scope) (AllSaid (λ n. Named n × NamedOthers n) (e ∷ es) (name_before declares names) scope) _ _ one (λ x first.
      yields_then (AllSaid NamedOthers es names x.0.1) (AllSaid (λ n. Named n × NamedOthers n) (e ∷ es) (name_before declares names) scope) _ _ (others x.0.1 x.1) (λ xs rest.
      yields_ok (AllSaid (λ n. Named n × NamedOthers n) (e ∷ es) (name_before declares names) scope) (x.0.0 ∷ xs.0.0, xs.0.1) xs.1 (record {
        stays = stays_on declares names scope x.0.1 xs.0.1 first.stays rest.stays;
        named = λ n m all. rest.named n m.1 (first.named n m.0 all);
        is = ap (λ (b : Bool). b ∷ map ends xs.0.0) first.is.ended ∙ ap (λ (bs : List Bool). e ∷ bs) rest.is;
      })))

-- the last of a list, and all of it
last_same : (ss : List StmtForm) (before : Bool) → typed_ends.last_ends (stmt_forms ss) before ≡ texts.last_of before (map ends ss)
last_same [] before = refl
last_same (s ∷ ss) before = last_same ss (ends s)

all_same : (ss : List StmtForm) → typed_ends.all_end (stmt_forms ss) ≡ texts.all_end (map ends ss)
all_same [] = refl
all_same (s ∷ ss) = ap (λ (b : Bool). ends s && b) (all_same ss)

-- ---- blocks

abbrev pub ItemClaim : BlockItem → Type 0
ItemClaim x = ItemLaws (item_part x) (block_item_tree x) (item_ends x)

abbrev items_of : List (Both ItemClaim) → List BlockItem
items_of is = map (λ z. z.0) is

abbrev items_tree : List (Both ItemClaim) → Tree
items_tree is = list_tree (map block_item_tree (items_of is))

items_said : (is : List (Both ItemClaim)) (around : Around) (scope : Scope) (types : Types)
    → Yields (AllSaid (λ n. IsNamedTree n (items_tree is)) (map item_ends (items_of is)) (names_of (map item_part (items_of is))) scope) (in_turn (parts_of (map item_part (items_of is))) around scope types)
items_said [] around scope types = none_said scope types
items_said (i ∷ is) around scope types =
    more_said (item_part i.0).declares (names_of (map item_part (items_of is))) (item_part i.0).part (parts_of (map item_part (items_of is))) around scope types
    (i.1.says around scope types) (λ s t. items_said is around s t)

pub block_says : (r : rules.Rule) (n : ℕ) (opening closing : Place) (after : Tree) (is : List (Both ItemClaim))
    → SaysOf (node r (construct n opening (items_tree is ⨾ after))) (texts.last_ends (map item_ends (items_of is))) [] (block_part (map item_part (items_of is)) closing)
block_says r n opening closing after is around scope types =
    let whole : Tree = node r (construct n opening (items_tree is ⨾ after)) in
    let es = map item_ends (items_of is) in
    let names = names_of (map item_part (items_of is)) in
    yields_then (AllSaid (λ m. IsNamedTree m (items_tree is)) es names scope) (Said (λ m. IsNamedTree m whole) (texts.last_ends es) [] scope) _ _ (items_said is around scope types) (λ x all.
    yields_ok (Said (λ m. IsNamedTree m whole) (texts.last_ends es) [] scope) (typed.block (stmt_forms x.0.0) closing, forgotten names x.0.1) x.1 (record {
      stays = stays_behind names scope x.0.1 all.stays;
      named = λ m named kept. still_named m names x.0.1 (all.named m named.0 kept);
      is = record { alone = λ none. refl; ended = last_same x.0.0 false ∙ ap (texts.last_of false) all.is };
    }))

-- ---- branches

abbrev pub BranchClaim : Branch → Type 0
BranchClaim x = BranchLaws (branch_part x) (branch_view x) (branch_ends x)

abbrev pub ElseIfClaim : ElseIf → Type 0
ElseIfClaim x = ElseIfLaws (else_if_part x) (else_if_view x) (else_if_ends x)

abbrev else_ifs_of : List (Both ElseIfClaim) → List ElseIf
else_ifs_of more = map (λ z. z.0) more

abbrev AreNamed : ℕ → List ElseIfView → Type 0
AreNamed n [] = Unit {0}
AreNamed n (v ∷ vs) = IsNamedTree n v.branch.body × AreNamed n vs

branches_said : (more : List (Both ElseIfClaim)) (around : Around) (scope : Scope) (types : Types)
    → Yields (AllSaid (λ n. AreNamed n (map else_if_view (else_ifs_of more))) (map else_if_ends (else_ifs_of more)) [] scope) (in_turn (map else_if_part (else_ifs_of more)) around scope types)
branches_said [] around scope types = none_said scope types
branches_said (b ∷ bs) around scope types =
    more_said None [] (else_if_part b.0) (map else_if_part (else_ifs_of bs)) around scope types (b.1.says around scope types) (λ s t. branches_said bs around s t)

abbrev pub IsNamedIfAny : ℕ → Option Tree → Type 0
IsNamedIfAny n None = Unit {0}
IsNamedIfAny n (Some t) = IsNamedTree n t

else_named : (n : ℕ) (vs : List ElseIfView) (last : Option Tree) → IsNamedTree n (else_part_tree vs last) → AreNamed n vs × IsNamedIfAny n last
else_named n [] None named = (tt, tt)
else_named n [] (Some t) named = (tt, named)
else_named n (v ∷ vs) last named = let others = else_named n vs last named.1.1.1.1 in ((named.1.1.1.0, others.0), others.1)

if_says : (first : Both BranchClaim) (more : List (Both ElseIfClaim)) (last : Option Part) (t : Option Tree) (e : Option Bool)
    → Says (λ n. IsNamedIfAny n t) (texts.else_ends e) [] (optional_part last)
    → SaysOf (node rules.branches (construct fixed.IF (branch_view first.0).keyword ((branch_view first.0).condition ⨾ (branch_view first.0).body ⨾ else_part_tree (map else_if_view (else_ifs_of more)) t)))
    (branch_ends first.0 && (texts.all_end (map else_if_ends (else_ifs_of more)) && texts.else_ends e)) []
    (λ around scope types. in_turn (branch_part first.0 ∷ map else_if_part (else_ifs_of more)) around scope types >>= (λ x. optional_part last around x.0.1 x.1 >>= (λ y. Ok ((typed.branching (stmt_forms x.0.0) y.0.0, y.0.1), y.1))))
if_says first more last t e ended around scope types =
    let view = branch_view first.0 in
    let vs = map else_if_view (else_ifs_of more) in
    let es = map else_if_ends (else_ifs_of more) in
    let whole : Tree = node rules.branches (construct fixed.IF view.keyword (view.condition ⨾ view.body ⨾ else_part_tree vs t)) in
    let end : Bool = branch_ends first.0 && (texts.all_end es && texts.else_ends e) in
    yields_then (AllSaid (λ n. IsNamedTree n view.body × AreNamed n vs) (branch_ends first.0 ∷ es) [] scope) (Said (λ n. IsNamedTree n whole) end [] scope) _ _
    (more_said None [] (branch_part first.0) (map else_if_part (else_ifs_of more)) around scope types (first.1.says around scope types) (λ s u. branches_said more around s u)) (λ x all.
    yields_then (Said (λ n. IsNamedIfAny n t) (texts.else_ends e) [] x.0.1) (Said (λ n. IsNamedTree n whole) end [] scope) _ _ (ended around x.0.1 x.1) (λ y rest.
    yields_ok (Said (λ n. IsNamedTree n whole) end [] scope) (typed.branching (stmt_forms x.0.0) y.0.0, y.0.1) y.1 (record {
      stays = stays_then [] scope x.0.1 y.0.1 all.stays rest.stays;
      named = λ n m kept. let others = else_named n vs t m.1.1 in rest.named n others.1 (all.named n (m.1.0, others.0) kept);
      is = record {
        alone = λ none. refl;
        ended = ap (λ (b : Bool). b && ends y.0.0) (all_same x.0.0 ∙ ap texts.all_end all.is) ∙ ap (λ (b : Bool). (branch_ends first.0 && texts.all_end es) && b) rest.is.ended
            ∙ and_assoc (branch_ends first.0) (texts.all_end es) (texts.else_ends e);
      };
    })))

-- without an `else`
pub no_else_says : Says (λ n. Unit {0}) false [] (optional_part None)
no_else_says around scope types = still scope typed.no_more types refl refl

pub if_laws : (first : Both BranchClaim) (more : List (Both ElseIfClaim)) (last : Option Part) (t : Option Tree) (e : Option Bool) → GoodPart (optional_part last)
    → Says (λ n. IsNamedIfAny n t) (texts.else_ends e) [] (optional_part last)
    → PartLaws (if_of (branch_part first.0 ∷ map else_if_part (else_ifs_of more)) last)
    (node rules.branches (construct fixed.IF (branch_view first.0).keyword ((branch_view first.0).condition ⨾ (branch_view first.0).body ⨾ else_part_tree (map else_if_view (else_ifs_of more)) t)))
    (branch_ends first.0 && (texts.all_end (map else_if_ends (else_ifs_of more)) && texts.else_ends e))
if_laws first more last t e good ended = record {
  good = if_good (branch_part first.0 ∷ map else_if_part (else_ifs_of more)) last (first.1.good, each_of ElseIfClaim GoodBranch else_if_part (λ x laws. laws.good) more) good (alone_by ended);
  says = if_says first more last t e ended;
}
