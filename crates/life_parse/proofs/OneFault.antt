-- A file has no tree for one reason alone.
use Rattle.std.proofs.Common.{◌≡◌, ◌<◌, ◌∙◌, ℕ, List, [], ◌∷◌, ◌++◌, length, Some, Result, Ok, Err, IfErr, refl, sym, ap, subst, inl, inr, arith, append_assoc}
use Rattle.std.proofs.lemmas.Bool.{cases_lt}
use Rattle.std.proofs.lemmas.List.{length-append}
use Rattle.life_keys.specs.Keys.{file_tokens}
use Rattle.life_lex.specs.Answers.{LexesOnly, FaultsOnly}
use Rattle.life_lex.specs.Readings.{Lexeme, whole, broken}
use Rattle.life_lex.specs.declared.fault.LexFault.{LexFault}
use Rattle.life_parse.specs.Ends.{Ends, IsOnlyFault, IsTooDeepAt, RefusesAt, place_of_token}
use Rattle.life_tree.specs.Tree.{Tokens}
use Rattle.life_parse.specs.Source.{IsRefused, IsTooDeep, OpensTooMany, SameFront}
use Rattle.life_parse.specs.declared.fault.ParseFault.{ParseFault}
use Rattle.life_parse.specs.declared.fault.ParseFault.TheVariants.{Lex, Refused, Limit, NoMemory}
use Rattle.life_tree.specs.declared.limit.LimitFault.{LimitFault}
use Rattle.life_tree.specs.declared.limit.LimitName.TheVariants.{Nesting}
use Rattle.life_tree.specs.declared.program.Program.{Program}
use Rattle.life_types.specs.declared.place.Place.{Place}
use Rattle.life_parse.proofs.Cuts.{cut_later}

-- ---- of tokens

-- a token further on is in the tree that begins with what stands before the later one
further : (rest begun later mid : Tokens) → rest ≡ mid ++ later → 0 < length mid → SameFront rest (mid ++ begun)
further rest begun later [] e some = absurd (omega (arith, some))
further rest begun later (x ∷ mid) e some = subst (λ (r : Tokens). SameFront r (x ∷ mid ++ begun)) (sym e) refl

refused_before : (ts : Tokens) (k n : ℕ) → IsRefused ts k → IsRefused ts n → k < n → ⊥
refused_before ts k n a b less =
    let c = cut_later a.before a.rest b.before b.rest (sym a.split ∙ b.split) (omega (arith, a.as_far, b.as_far)) in
    let some : 0 < length c.0 = omega (arith, a.as_far, b.as_far, ap length c.1, length-append a.before c.0) in
    a.ended b.begun.tree b.begun.program (c.0 ++ b.begun.more) (further a.rest b.begun.more b.rest c.0 c.2 some)
    (b.begun.spelled ∙ ap (λ (r : Tokens). r ++ b.begun.more) c.1 ∙ append_assoc a.before c.0 b.begun.more)

pub one_refusal : (ts : Tokens) (k n : ℕ) → IsRefused ts k → IsRefused ts n → k ≡ n
one_refusal ts k n a b = elim (cases_lt k n) [
  | inl less ↦ absurd (refused_before ts k n a b less)
  | inr more ↦ elim (cases_lt n k) [
    | inl less ↦ absurd (refused_before ts n k b a less)
    | inr more' ↦ omega (arith, more, more')
  ]
]

one_depth : (ts : Tokens) (i j : ℕ) → IsTooDeep ts i → IsTooDeep ts j → i ≡ j
one_depth ts i j a b = elim (cases_lt i j) [
  | inl less ↦ absurd (b.least i less a.opens)
  | inr more ↦ elim (cases_lt j i) [
    | inl less ↦ absurd (a.least j less b.opens)
    | inr more' ↦ omega (arith, more, more')
  ]
]

-- ---- of files

ending_is : (f g : LexFault) → broken f ≡ broken g → f ≡ g
ending_is f g e = cc

whole_is_not : (f : LexFault) → whole ≡ broken f → ⊥
whole_is_not f e = cc

same_lexemes : (bytes : List ℕ) (ls us : List Lexeme) → LexesOnly bytes ls → LexesOnly bytes us → us ≡ ls
same_lexemes bytes ls us a b = (a.1 us whole b.0).0

lexed_is_sound : (bytes : List ℕ) (f : LexFault) (ls : List Lexeme) → FaultsOnly bytes f → LexesOnly bytes ls → ⊥
lexed_is_sound bytes f ls a b = whole_is_not f (a.1.1 ls whole b.0).1

same_refusals : (bytes : List ℕ) (k n : ℕ) (p q : Place) → RefusesAt bytes k p → RefusesAt bytes n q → Refused n q ≡ Refused k p
same_refusals bytes k n p q a b =
    let ls = same_lexemes bytes a.lexemes b.lexemes a.lexed b.lexed in
    let there = subst (λ (us : List Lexeme). IsRefused (file_tokens us) n) ls b.refused in
    let number = one_refusal (file_tokens a.lexemes) n k there a.refused in
    let place : q ≡ place_of_token bytes a.lexemes k = b.stands ∙ ap (λ (us : List Lexeme). place_of_token bytes us n) ls ∙ ap (place_of_token bytes a.lexemes) number in
    rw (number, place, a.stands) refl

refusal_is_shallow : (bytes : List ℕ) (k : ℕ) (p : Place) (fault : LimitFault) → RefusesAt bytes k p → IsTooDeepAt bytes fault → ⊥
refusal_is_shallow bytes k p fault a b =
    let ls = same_lexemes bytes b.lexemes a.lexemes b.lexed a.lexed in
    let refused = subst (λ (us : List Lexeme). IsRefused (file_tokens us) k) ls a.refused in
    let before = b.first k refused in
    a.shallow b.at before (subst (λ (us : List Lexeme). OpensTooMany (file_tokens us) b.at) (sym ls) b.deep.opens)

record_at : List ℕ → List Lexeme → ℕ → LimitFault
record_at bytes ls i = record { name = Nesting; place = Some (place_of_token bytes ls i) }

same_depths : (bytes : List ℕ) (f g : LimitFault) → IsTooDeepAt bytes f → IsTooDeepAt bytes g → g ≡ f
unfolding record_at
same_depths bytes f g a b =
    let ls = same_lexemes bytes a.lexemes b.lexemes a.lexed b.lexed in
    let there = subst (λ (us : List Lexeme). IsTooDeep (file_tokens us) b.at) ls b.deep in
    let number = one_depth (file_tokens a.lexemes) b.at a.at there a.deep in
    b.named ∙ ap (λ (us : List Lexeme). record_at bytes us b.at) ls ∙ ap (record_at bytes a.lexemes) number ∙ sym a.named

pub one_fault : (bytes : List ℕ) (f g : ParseFault) → Ends bytes (Err f) → (f ≡ NoMemory → ⊥) → Ends bytes (Err g) → (g ≡ NoMemory → ⊥) → g ≡ f
one_fault bytes f NoMemory a had b has = absurd (has refl)
one_fault bytes NoMemory g a had b has = absurd (had refl)
one_fault bytes (Lex f) (Lex g) a had b has = ap Lex (ending_is g f (a.0.1.1 b.0.0 (broken g) b.0.1.0).1)
one_fault bytes (Lex f) (Refused k p) a had b has = absurd (lexed_is_sound bytes f b.0.lexemes a.0 b.0.lexed)
one_fault bytes (Lex f) (Limit g) a had b has = absurd (lexed_is_sound bytes f b.0.lexemes a.0 b.0.lexed)
one_fault bytes (Refused k p) (Lex g) a had b has = absurd (lexed_is_sound bytes g a.0.lexemes b.0 a.0.lexed)
one_fault bytes (Refused k p) (Refused n q) a had b has = same_refusals bytes k n p q a.0 b.0
one_fault bytes (Refused k p) (Limit g) a had b has = absurd (refusal_is_shallow bytes k p g a.0 b.0)
one_fault bytes (Limit f) (Lex g) a had b has = absurd (lexed_is_sound bytes g a.0.lexemes b.0 a.0.lexed)
one_fault bytes (Limit f) (Refused k p) a had b has = absurd (refusal_is_shallow bytes k p f b.0 a.0)
one_fault bytes (Limit f) (Limit g) a had b has = ap Limit (same_depths bytes f g a.0 b.0)

pub only_fault : (bytes : List ℕ) (r : Result Program ParseFault) → Ends bytes r → IfErr r (λ fault. IsOnlyFault bytes fault)
only_fault bytes (Ok p) ends = tt
only_fault bytes (Err (Lex f)) ends = λ other there has. one_fault bytes (Lex f) other ends (λ e. cc) there has
only_fault bytes (Err (Refused k p)) ends = λ other there has. one_fault bytes (Refused k p) other ends (λ e. cc) there has
only_fault bytes (Err (Limit f)) ends = λ other there has. one_fault bytes (Limit f) other ends (λ e. cc) there has
only_fault bytes (Err NoMemory) ends = tt
