-- What reading the tokens of a whole file as a program says of them.
use Rattle.std.proofs.Common.{◌≡◌, ℕ, ◌<◌, ◌≤◌, ◌+◌, [], ◌∷◌, ◌++◌, List, length, slice_get, Some, Ok, Err, ◌⊎◌, inl, inr, refl, sym, ap, subst, ◌∙◌, append-nil, append_assoc, arith, max}
use Rattle.std.proofs.lemmas.Bool.{cases_lt}
use Rattle.std.proofs.lemmas.List.{length-append}
use Rattle.std.proofs.lemmas.Option.{slice_get_within}
use Rattle.life_expr.specs.Read.{refused, deep, Read}
use Rattle.life_expr.specs.Readers.{read_rule}
use Rattle.life_parse.specs.Source.{SameFront, IsBegun, IsRefused, OpensTooMany, IsTooDeep}
use Rattle.life_parse.proofs.Binds.{ok_is, err_no_ok, ok_no_err}
use Rattle.life_parse.proofs.ClosesRules.{closes_rule}
use Rattle.life_parse.proofs.Counts.{counts_low, get_low, get_behind, get_over}
use Rattle.life_parse.proofs.Cuts.{cut_later, same_before, same_itself, same_up_to}
use Rattle.life_parse.proofs.GoodPrograms.{whole_is_read, program_tree, read_exactly, one_program}
use Rattle.life_parse.proofs.GoodRules.{good_rule}
use Rattle.life_parse.proofs.Laws.{IsTree, Deepening, IsOver}
use Rattle.life_parse.proofs.Near.{near_rule}
use Rattle.life_parse.proofs.SlowRules.{slow_rule}
use Rattle.life_tree.specs.Grammar.{rule, IsProgram, Fits}
use Rattle.life_tree.specs.Rules as rules
use Rattle.life_tree.specs.Tree.{Tree, tokens_of, depth, open_at, Tokens}

same_stop : (us vs : Tokens) → ◌≡◌ {A = Read} (Err (deep us)) (Err (deep vs)) → us ≡ vs
same_stop us vs e = cc

a_program : (t : Tree) → IsTree t (rule rules.program) → IsProgram t
a_program t i = record { conforms = i.conforms; elses = i.elses }

-- ---- a program

pub read_whole : (ts : Tokens) (t : Tree) (rest : Tokens) → read_rule 64 rules.program ts ≡ Ok (t, rest) → rest ≡ []
    → (ts ≡ tokens_of t) × Fits t × ((u : Tree) → IsProgram u → ts ≡ tokens_of u → u ≡ t)
read_whole ts t rest e none =
    let w = (read_exactly ts t).0 (subst (λ (r : Tokens). read_rule 64 rules.program ts ≡ Ok (t, r)) none e) in
    (w.0, w.1, λ u p is. one_program u t p w.1.program (sym is ∙ w.0))

-- how many more may be open, so that reading it neither goes too deep nor differs from reading where 64 may be
abbrev enough : Tree → ℕ
enough t = max 64 (depth t)

program_is_read : (t : Tree) (ts : Tokens) → IsProgram t → tokens_of t ≡ ts → read_rule (enough t) rules.program ts ≡ Ok (t, [])
program_is_read t ts p is = ap (read_rule (enough t) rules.program) (sym is) ∙ whole_is_read (enough t) rules.program t (program_tree t p) (omega arith)

-- ---- other tokens, from where reading stopped

enough_is : (t : Tree) → 64 ≤ enough t
enough_is t = omega arith

reads_on : (n : ℕ) → 64 ≤ n → (ts before rest other : Tokens) (t : Tree) → ts ≡ before ++ rest → SameFront rest other → read_rule 64 rules.program ts ≡ Ok (t, rest) → read_rule n rules.program (before ++ other) ≡ Ok (t, other)
reads_on n le ts before rest other t split same e =
    let a = (near_rule 64 n rules.program le).reads ts t rest e in
    subst (λ (u : Tokens). read_rule n rules.program (u ++ other) ≡ Ok (t, other)) (same_before a.0 before rest (sym a.1 ∙ split)) (a.2 other same)

refuses_on : (n : ℕ) → 64 ≤ n → (ts before rest other : Tokens) → ts ≡ before ++ rest → SameFront rest other → read_rule 64 rules.program ts ≡ Err (refused rest) → read_rule n rules.program (before ++ other) ≡ Err (refused other)
refuses_on n le ts before rest other split same e =
    let a = (near_rule 64 n rules.program le).refuses ts rest e in
    subst (λ (u : Tokens). read_rule n rules.program (u ++ other) ≡ Err (refused other)) (same_before a.0 before rest (sym a.1 ∙ split)) (a.2 other same)

deepens_on : (ts before rest other : Tokens) → ts ≡ before ++ rest → SameFront rest other → read_rule 64 rules.program ts ≡ Err (deep rest) → read_rule 64 rules.program (before ++ other) ≡ Err (deep other)
deepens_on ts before rest other split same e =
    let a = (near_rule 64 64 rules.program (omega arith)).deepens ts rest e in
    subst (λ (u : Tokens). read_rule 64 rules.program (u ++ other) ≡ Err (deep other)) (same_before a.0 before rest (sym a.1 ∙ split)) (a.2 other same)

-- ---- where too many are open, reading goes too deep

-- in a tree that isn't deep 65 are open nowhere
no_deeper : (t : Tree) (j : ℕ) → depth t ≤ 64 → slice_get (open_at 0 t) j ≡ Some 65 → ⊥
no_deeper t j le e =
    let low : 65 ≤ 64 = get_low 64 (open_at 0 t) [] j 65 (counts_low 64 0 t (omega arith)) (slice_get_within (open_at 0 t) j 65 e) (ap (λ (l : List ℕ). slice_get l j) (append-nil (open_at 0 t)) ∙ e) in
    omega arith

-- there or before
pub stops_too_deep : (ts : Tokens) (j : ℕ) → OpensTooMany ts j → (rest : Tokens) × (read_rule 64 rules.program ts ≡ Err (deep rest)) × (length ts ≤ j + length rest)
stops_too_deep ts j o = go ((slow_rule 64 (enough o.tree) rules.program).slow (tokens_of o.tree) o.tree [] (program_is_read o.tree (tokens_of o.tree) o.program refl))
  where
    -- the tokens of the tree are cut where it goes too deep
    at : (pre rest : Tokens) → tokens_of o.tree ≡ pre ++ rest → read_rule 64 rules.program (tokens_of o.tree) ≡ Err (deep rest) → length pre ≤ j
        → (rest : Tokens) × (read_rule 64 rules.program ts ≡ Err (deep rest)) × (length ts ≤ j + length rest)
    at pre rest split e early =
        let far = o.as_far in
        let c = cut_later pre rest o.before (o.opener ∷ o.more) (sym split ∙ o.spelled) (omega arith) in
        let other : Tokens = c.0 ++ o.opener ∷ o.behind in
        let is : ts ≡ pre ++ other = o.split ∙ ap (λ (u : Tokens). u ++ o.opener ∷ o.behind) c.1 ∙ append_assoc pre c.0 (o.opener ∷ o.behind) in
        let same : SameFront rest other = subst (λ (u : Tokens). SameFront u other) (sym c.2) (same_up_to c.0 o.opener o.more o.behind) in (
          other,
          ap (read_rule 64 rules.program) is ∙ deepens_on (tokens_of o.tree) pre rest other split same e,
          omega (arith, ap length is, length-append pre other),
        )

    go : ((read_rule 64 rules.program (tokens_of o.tree) ≡ Ok (o.tree, [])) × (depth o.tree ≤ 64))
        ⊎ ((pre : Tokens) × (rest : Tokens) × (tokens_of o.tree ≡ pre ++ rest) × (read_rule 64 rules.program (tokens_of o.tree) ≡ Err (deep rest)) × IsOver 64 (open_at 0 o.tree) (length pre))
        → (rest : Tokens) × (read_rule 64 rules.program ts ≡ Err (deep rest)) × (length ts ≤ j + length rest)
    go (inl h) = absurd (no_deeper o.tree j h.1 o.counted)
    go (inr h) = at h.0 h.1 h.2 h.3 (get_over 64 (open_at 0 o.tree) (length h.0) j h.4 o.counted)

-- ---- a refused token

-- Reading stops before rest: its first token was refused, or a program ended before it.
abbrev pub StopsAt : Tokens → Tokens → Type 0
StopsAt ts rest = (read_rule 64 rules.program ts ≡ Err (refused rest)) ⊎ ((t : Tree) × (read_rule 64 rules.program ts ≡ Ok (t, rest)) × (0 < length rest))

-- what that says: no program goes on with the first token of rest, though one begins with those before it
record Stopping (ts rest : Tokens) : Type 0 where
  before : Tokens
  split : ts ≡ before ++ rest
  begun : IsBegun before
  ended : (t : Tree) → IsProgram t → (other : Tokens) → SameFront rest other → tokens_of t ≡ before ++ other → ⊥
  shallow : (us : Tokens) → read_rule 64 rules.program ts ≡ Err (deep us) → ⊥

-- a token stands in front of both
no_end : (rest other : Tokens) → 0 < length rest → SameFront rest other → other ≡ [] → ⊥
no_end [] other some same none = absurd (omega arith)
no_end (k ∷ ks) [] some same none = same
no_end (k ∷ ks) (l ∷ ls) some same none = absurd cc

stopping : (ts rest : Tokens) → StopsAt ts rest → Stopping ts rest
stopping ts rest (inl e) =
    let c = (closes_rule 64 rules.program).refuses ts rest e in
    record {
      before = c.before;
      split = c.split;
      begun = record { tree = c.tree; program = a_program c.tree c.fits; more = c.closing; spelled = sym c.spelled };
      ended = λ t p other same is. err_no_ok (refused other) (t, []) (sym (refuses_on (enough t) (enough_is t) ts c.before rest other c.split same e) ∙ program_is_read t (c.before ++ other) p is);
      shallow = λ us h. let both : ◌≡◌ {A = Read} (Err (refused rest)) (Err (deep us)) = sym e ∙ h in absurd cc;
    }
stopping ts rest (inr (u, e, some)) =
    let s = (good_rule 64 rules.program).sound ts u rest e in
    record {
      before = tokens_of u;
      split = s.0;
      begun = record { tree = u; program = a_program u s.1; more = []; spelled = sym (append-nil (tokens_of u)) };
      ended = λ t p other same is.
          no_end rest other some same
          (ap (λ (x : Tree × Tokens). x.1) (ok_is (u, other) (t, []) (sym (reads_on (enough t) (enough_is t) ts (tokens_of u) rest other u s.0 same e) ∙ program_is_read t (tokens_of u ++ other) p is)));
      shallow = λ us h. ok_no_err (u, rest) (deep us) (sym e ∙ h);
    }

pub whole_refused : (ts rest : Tokens) → StopsAt ts rest → (at : ℕ) → length ts ≡ at + length rest
    → IsRefused ts at × ((j : ℕ) → j < at → OpensTooMany ts j → ⊥) × ((u : Tree) → IsProgram u → ts ≡ tokens_of u → ⊥)
whole_refused ts rest e at far =
    let s = stopping ts rest e in (
      record {
        before = s.before;
        rest = rest;
        split = s.split;
        as_far = omega (arith, ap length s.split, length-append s.before rest);
        begun = s.begun;
        ended = s.ended;
      },
      λ j early o. let d = stops_too_deep ts j o in s.shallow d.0 d.1,
      λ u p is. s.ended u p rest (same_itself rest) (sym is ∙ s.split),
    )

-- ---- a token that opens too much

pub whole_deep : (ts rest : Tokens) → read_rule 64 rules.program ts ≡ Err (deep rest) → (at : ℕ) → length ts ≡ at + length rest
    → IsTooDeep ts at × ((k : ℕ) → IsRefused ts k → at < k) × ((u : Tree) → Fits u → ts ≡ tokens_of u → ⊥)
whole_deep ts rest e at far = (
  record { opens = opens; least = least },
  later,
  λ u f is. ok_no_err (u, []) (deep rest) (sym ((read_exactly ts u).1 (is, f)) ∙ e),
)
  where
    c : Deepening 64 (rule rules.program) ts rest
    c = (closes_rule 64 rules.program).deepens ts rest e

    split : ts ≡ c.before ++ c.opener ∷ c.behind
    split = c.split ∙ ap (λ (u : Tokens). c.before ++ u) c.front

    as_far : length c.before ≡ at
    as_far = omega (arith, far, ap length c.split, length-append c.before rest)

    opens : OpensTooMany ts at
    opens = record {
      before = c.before;
      opener = c.opener;
      behind = c.behind;
      split = split;
      as_far = as_far;
      tree = c.tree;
      program = a_program c.tree c.fits;
      more = c.closing;
      spelled = sym c.spelled;
      counted = ap (slice_get (open_at 0 c.tree)) (sym (c.as_far ∙ as_far)) ∙ ap (λ (l : List ℕ). slice_get l (length c.counts)) c.counted ∙ get_behind c.counts c.later 65;
    }

    least : (j : ℕ) → j < at → OpensTooMany ts j → ⊥
    least j early o =
        let d = stops_too_deep ts j o in
        let same : rest ≡ d.0 = same_stop rest d.0 (sym e ∙ d.1) in
        omega (arith, far, early, d.2, ap length same)

    later : (k : ℕ) → IsRefused ts k → at < k
    later k r = go (cases_lt at k)
      where
        go : (at < k) ⊎ (k ≤ at) → at < k
        go (inl early) = early
        go (inr le) =
            let here = r.as_far in
            let there = as_far in
            let cut = cut_later r.before r.rest c.before (c.opener ∷ c.behind) (sym r.split ∙ split) (omega arith) in
            let other : Tokens = cut.0 ++ c.opener ∷ c.closing in
            absurd (r.ended c.tree (a_program c.tree c.fits) other (subst (λ (u : Tokens). SameFront u other) (sym cut.2) (same_up_to cut.0 c.opener c.behind c.closing))
            (sym c.spelled ∙ ap (λ (u : Tokens). u ++ c.opener ∷ c.closing) cut.1 ∙ append_assoc r.before cut.0 (c.opener ∷ c.closing)))
