use Rattle.std.proofs.Common.{◌≡◌, ◌+◌, ◌≤◌, ◌<◌, ℕ, Some, List, map, length, drop, get_or, slice_get, ap, subst, sym, ◌∙◌, arith}
use Rattle.std.proofs.lemmas.List.{length-map}
use Rattle.std.proofs.lemmas.Option.{slice_get-get_or, slice_get-map}
use Rattle.std.specs.Prelude.{option_map}
use Rattle.life_types.specs.Types.{Types}
use Rattle.life_core.specs.Function.{function_of, program_of}
use Rattle.life_core.specs.declared.program.CoreFn.{CoreFn}
use Rattle.life_contract.specs.Signatures.{Signature}
use Rattle.life_rules.specs.Listing.{program_line}
use Rattle.life_rules.specs.Texts.{naming_of}
use Rattle.life_fix.specs.Candidates.{candidate_seen}
use Rattle.life_fix.specs.Programs.{AddsDiagnosed, most_steps_in}
use Rattle.life_fix.specs.Solving.{most_steps}
use Rattle.life_fix.proofs.Finding.{same_wrongs}
use Rattle.life_fix.proofs.ProgramFound.{found_in_all, found_in_next}
use Rattle.life_fix.proofs.ProgramSteps.{steps_at}
use Rattle.life_fix.proofs.program.program_diagnostics.Goals as goal

-- the function at hand is one of the program's
at : (fs items : List CoreFn) (k : ℕ) (f : CoreFn) → items ≡ fs → k < length items → f ≡ get_or items k f → slice_get (map function_of fs) k ≡ Some (function_of f)
at fs items k f same lt is =
    slice_get-map function_of fs k ∙ ap (λ (gs : List CoreFn). option_map function_of (slice_get gs k)) (sym same)
    ∙ ap (option_map function_of) (slice_get-get_or items k f lt ∙ ap Some (sym is))

pub push_diagnosed-requires : goal.push_diagnosed-requires
push_diagnosed-requires g c =
    c.requires.each c.loop-index.index (function_of c.f-item.result)
    (at c.args.program.now.functions.items c.deref-f-items.result.now c.loop-index.index c.f-item.result c.deref-f-items.ensures.value c.loop-index-test.true c.f-item.is)

-- .. and takes no more steps than there are left for it
ticks_left : (types : Types) (fs items : List CoreFn) (k : ℕ) (f : CoreFn) (before after : ℕ) → items ≡ fs → k < length items → f ≡ get_or items k f
    → after ≤ before + most_steps types (function_of f)
    → after + most_steps_in types (drop (k + 1) (map function_of fs)) ≤ before + most_steps_in types (drop k (map function_of fs))
ticks_left types fs items k f before after same lt is few = omega (arith, few, steps_at types (map function_of fs) k (function_of f) (at fs items k f same lt is))

pub loop-index-preserved : goal.loop-index-preserved
loop-index-preserved g c =
    let adds = subst (λ (ss : List Signature). AddsDiagnosed (naming_of c.args.program.now.names ss) c.args.program.now.types c.loop-index.index (function_of c.f-item.result)
    (map candidate_seen c.loop-index.candidates.items) (map candidate_seen c.push_diagnosed.new.out.items)) c.in_ok-sigs.ensures c.in_ok-push_diagnosed.ensures.adds in
    let left = ticks_left c.args.program.now.types c.args.program.now.functions.items c.deref-f-items.result.now c.loop-index.index c.f-item.result c.loop-index.steps c.push_diagnosed.new.steps
    c.deref-f-items.ensures.value c.loop-index-test.true c.f-item.is c.in_ok-push_diagnosed.ensures.ticks in
    record {
      found = found_in_next (program_of c.args.program.now) c.loop-index.index (function_of c.f-item.result) (map candidate_seen c.loop-index.candidates.items) (map candidate_seen c.push_diagnosed.new.out.items)
          (at c.args.program.now.functions.items c.deref-f-items.result.now c.loop-index.index c.f-item.result c.deref-f-items.ensures.value c.loop-index-test.true c.f-item.is)
          adds c.loop-index.invariant.found;
      ticks = omega (arith, left, c.loop-index.invariant.ticks);
    }

pub returns-in_err-push_diagnosed-clause-ticks : goal.returns-in_err-push_diagnosed-clause-ticks
returns-in_err-push_diagnosed-clause-ticks g c =
    let left = ticks_left c.args.program.now.types c.args.program.now.functions.items c.deref-f-items.result.now c.loop-index.index c.f-item.result c.loop-index.steps c.push_diagnosed.new.steps
    c.deref-f-items.ensures.value c.loop-index-test.true c.f-item.is c.in_err-push_diagnosed.ensures.ticks in
    omega (arith, left, c.loop-index.invariant.ticks)

pub returns-clause-ticks : goal.returns-clause-ticks
returns-clause-ticks g c = omega (arith, c.loop-index.invariant.ticks)

pub returns-clause-listed : goal.returns-clause-listed
returns-clause-listed g c =
    let p = program_of c.args.program.now in
    let count : length p.functions ≤ c.loop-index.index =
    omega (arith, length-map c.args.program.now.functions.items function_of, c.loop-index-test.false, ap (λ (fs : List CoreFn). length fs) c.deref-f-items.ensures.value) in
    let found = found_in_all p c.loop-index.index (map candidate_seen c.loop-index.candidates.items) count c.loop-index.invariant.found in
    same_wrongs found.all (c.listed.ensures.listed (program_line p) found.found found.are)

pub returns-clause-lines : goal.returns-clause-lines
returns-clause-lines g c =
    let p = program_of c.args.program.now in
    c.listed.ensures.lines (program_line p) c.loop-index.invariant.found.found c.loop-index.invariant.found.are
