-- Good readers of rules where one token doesn't decide.
use Rattle.std.proofs.Common.{◌≡◌, ℕ, true, false, [], ◌∷◌, None, sym, subst}
use Rattle.life_expr.specs.Read.{reads}
use Rattle.life_expr.specs.Readers.{Readers, begins_as, chosen, choose}
use Rattle.life_parse.proofs.SettledFronts.{Fronts, settled, front_is}
use Rattle.life_parse.proofs.GoodBelow.{GoodBelow, all_below}
use Rattle.life_parse.proofs.GoodChoice.{either, good_either}
use Rattle.life_parse.proofs.GoodDerived.{AllGood, each_below, good_made}
use Rattle.life_parse.proofs.GoodReads.{checked, Each, InsideGood, good_reads}
use Rattle.life_parse.proofs.Laws.{Good}
use Rattle.life_tree.specs.Grammar.{Form, ◌or◌, rule, form_of}
use Rattle.life_tree.specs.Rules.{Rule}

-- All trees of the first form begin as one of the fronts, and none of the second does.
pub good_choice : (k limit n : ℕ) (inside same : Readers) (fronts : Fronts) (f g : Form) → settled k None true (f ∷ []) fronts ≡ true → settled k None false (g ∷ []) fronts ≡ true
    → checked f ≡ true → checked g ≡ true → InsideGood n inside → Each (AllGood same n) (f or g) → GoodBelow limit (either (begins_as fronts) (λ ts. reads n inside same f ts) (λ ts. reads n inside same g ts)) (f or g) n
good_choice k limit n inside same fronts f g a b cf cg i e =
    let x = good_reads f limit n inside same cf i (each_below limit n same f e.0) in
    let y = good_reads g limit n inside same cg i (each_below limit n same g e.1) in
    good_either limit n (begins_as fronts) (λ ts. reads n inside same f ts) (λ ts. reads n inside same g ts) f g
    (λ t rest c s. front_is k true f fronts a t rest c)
    (λ t rest c s. front_is k false g fronts b t rest c)
    (λ ts t rest h r. y.sound ts t rest r)
    y.again
    x

-- the two forms of such a rule
abbrev pub first_of_two : Form → Form
first_of_two (f or g) = f
first_of_two f = f

abbrev pub second_of_two : Form → Form
second_of_two (f or g) = g
second_of_two f = f

pub good_chosen : (k n : ℕ) (inside same : Readers) (fronts : Fronts) (r : Rule) → form_of r ≡ first_of_two (form_of r) or second_of_two (form_of r)
    → settled k None true (first_of_two (form_of r) ∷ []) fronts ≡ true → settled k None false (second_of_two (form_of r) ∷ []) fronts ≡ true
    → checked (first_of_two (form_of r)) ≡ true → checked (second_of_two (form_of r)) ≡ true → InsideGood n inside → Each (AllGood same n) (first_of_two (form_of r) or second_of_two (form_of r))
    → Good (chosen fronts n inside same r) (rule r) n
good_chosen k n inside same fronts r is a b cf cg i e =
    all_below (chosen fronts n inside same r) (rule r) n (λ limit. good_made limit n (choose fronts n inside same (form_of r)) r
    (subst (λ (h : Form). GoodBelow limit (choose fronts n inside same h) h n) (sym is) (good_choice k limit n inside same fronts (first_of_two (form_of r)) (second_of_two (form_of r)) a b cf cg i e)))
