-- Ways of several parts are joined in any grouping.
use Rattle.std.proofs.Common.{◌≡◌, ◌&&◌, ◌+◌, ◌<◌, ℕ, Bool, true, false, List, [], ◌∷◌, Some, None, drop, get_or, length, map, refl, sym, ap, ◌∙◌}
use Rattle.std.proofs.lemmas.List.{drop_more}
use Rattle.life_types.specs.Types.{Types}
use Rattle.life_core.specs.Function.{Function}
use Rattle.life_core.specs.Shape.{is_statement}
use Rattle.life_core.specs.Tree.{Tree, Then, tree_of, trees}
use Rattle.life_core.specs.declared.stmt.Stmt.{Stmt}
use Rattle.life_core.proofs.ShapeLemmas.{tree_is_statement}
use Rattle.life_proper.specs.declared.known.Known.{Known}
use Rattle.life_proper.specs.declared.known.Known.TheVariants as known
use Rattle.life_proper.specs.Checking.{Flow, before_next, flow, joined, nowhere}
use Rattle.life_proper.specs.Knowing.{State, agreed, agreed_all, met}

agreed_assoc : (a b c : Known) → agreed (agreed a b) c ≡ agreed a (agreed b c)
agreed_assoc known.Unknown b c = refl
agreed_assoc known.Blank known.Blank known.Unknown = refl
agreed_assoc known.Blank known.Ready known.Unknown = refl
agreed_assoc known.Blank known.Unknown known.Unknown = refl
agreed_assoc known.Ready known.Blank known.Unknown = refl
agreed_assoc known.Ready known.Ready known.Unknown = refl
agreed_assoc known.Ready known.Unknown known.Unknown = refl
agreed_assoc _ _ _ = refl

all_assoc : (k j l : List Known) → agreed_all (agreed_all k j) l ≡ agreed_all k (agreed_all j l)
all_assoc [] j l = refl
all_assoc (a ∷ k) [] l = refl
all_assoc (a ∷ k) (b ∷ j) [] = refl
all_assoc (a ∷ k) (b ∷ j) (c ∷ l) =
    ap (λ (d : Known). d ∷ agreed_all (agreed_all k j) l) (agreed_assoc a b c)
    ∙ ap (λ (more : List Known). agreed a (agreed b c) ∷ more) (all_assoc k j l)

met_assoc : (s t u : State) → met (met s t) u ≡ met s (met t u)
met_assoc None t u = refl
met_assoc (Some k) None u = refl
met_assoc (Some k) (Some j) None = refl
met_assoc (Some k) (Some j) (Some l) = ap Some (all_assoc k j l)

met_none : (s : State) → met s None ≡ s
met_none None = refl
met_none (Some k) = refl

pub and_assoc : (a b c : Bool) → ((a && b) && c) ≡ (a && (b && c))
and_assoc true b c = refl
and_assoc false b c = refl

pub and_true : (a : Bool) → (a && true) ≡ a
and_true true = refl
and_true false = refl

pub joined_assoc : (a b c : Flow) → joined (joined a b) c ≡ joined a (joined b c)
joined_assoc a b c =
    rw (and_assoc a.fine b.fine c.fine, met_assoc a.next b.next c.next, met_assoc a.on_break b.on_break c.on_break, met_assoc a.on_continue b.on_continue c.on_continue, met_assoc a.on_true b.on_true c.on_true, met_assoc a.on_false b.on_false c.on_false)
    refl

-- nothing comes behind
pub joined_end : (w : Flow) → joined (before_next w) (record nowhere { next = w.next }) ≡ w
joined_end w = rw (and_true w.fine, met_none w.on_break, met_none w.on_continue, met_none w.on_true, met_none w.on_false) refl

-- the body of a function is a statement
pub body_is : (s : Stmt) (a : Bool) → (is_statement (tree_of s) && a) ≡ a
body_is s a = ap (λ (b : Bool). b && a) (tree_is_statement s)

-- one more part
pub flow_more : (types : Types) (f : Function) (w : Flow) (a rest : Tree)
    → joined (before_next (joined (before_next w) (flow types f a w.next))) (flow types f rest (flow types f a w.next).next)
    ≡ joined (before_next w) (flow types f (Then a rest) w.next)
flow_more types f w a rest = let v = flow types f a w.next in joined_assoc (before_next w) (before_next v) (flow types f rest v.next)

-- one turn of a loop over statements: the ways so far lose their next, which the item is given
pub flow_turn : (types : Types) (f : Function) (w left v now : Flow) (s : State) (items : List Stmt) (i : ℕ) (x : Stmt) (all : Flow)
    → i < length items → x ≡ get_or items i x → s ≡ w.next → left ≡ before_next w → v ≡ flow types f (tree_of x) s → now ≡ joined left v
    → joined (before_next w) (flow types f (trees (map tree_of (drop i items))) w.next) ≡ all
    → joined (before_next now) (flow types f (trees (map tree_of (drop (i + 1) items))) now.next) ≡ all
flow_turn types f w left v now s items i x all lt is given taken of made so_far =
    let rest = drop (i + 1) items in
    let cut : drop i items ≡ x ∷ rest = drop_more items i x lt ∙ ap (λ (y : Stmt). y ∷ rest) (sym is) in
    let ways : v ≡ flow types f (tree_of x) w.next = of ∙ ap (flow types f (tree_of x)) given in
    let whole : now ≡ joined (before_next w) (flow types f (tree_of x) w.next) =
    made ∙ ap (λ (u : Flow). joined u v) taken ∙ ap (joined (before_next w)) ways in
    ap (λ (u : Flow). joined (before_next u) (flow types f (trees (map tree_of rest)) u.next)) whole
    ∙ flow_more types f w (tree_of x) (trees (map tree_of rest))
    ∙ ap (λ (xs : List Stmt). joined (before_next w) (flow types f (trees (map tree_of xs)) w.next)) (sym cut)
    ∙ so_far
