use Rattle.std.proofs.Common.{◌≡◌, ◌+◌, ◌≤◌, ◌<◌, ◌++◌, ℕ, List, map, length, drop, get_or, ap, subst, sym, arith}
use Rattle.std.proofs.lemmas.List.{length-map}
use Rattle.life_types.specs.Types.{Types}
use Rattle.life_core.specs.Function.{function_of, program_of}
use Rattle.life_core.specs.declared.program.CoreFn.{CoreFn}
use Rattle.life_contract.specs.Signatures.{Signature}
use Rattle.life_fix.specs.Programs.{most_steps_in}
use Rattle.life_fix.specs.Solving.{most_steps}
use Rattle.life_fix.proofs.ProgramSteps.{steps_at}
use Rattle.life_psets.specs.Sets.{AddsSets, AreSets, set_seen}
use Rattle.life_psets.specs.declared.line.SetLine.{SetLine}
use Rattle.life_psets.proofs.Adding.{sets_next, sets_whole}
use Rattle.life_psets.proofs.Numbered.{function_there}
use Rattle.life_psets.proofs.sets.sets_of.Goals as goal

-- a function takes no more steps than there are left for it
ticks_left : (types : Types) (fs items : List CoreFn) (k : ℕ) (f : CoreFn) (before after : ℕ) → items ≡ fs → k < length items → f ≡ get_or items k f
    → after ≤ before + most_steps types (function_of f)
    → after + most_steps_in types (drop (k + 1) (map function_of fs)) ≤ before + most_steps_in types (drop k (map function_of fs))
ticks_left types fs items k f before after same lt is few = omega (arith, few, steps_at types (map function_of fs) k (function_of f) (function_there fs items k f same lt is))

pub push_function-requires : goal.push_function-requires
push_function-requires g c =
    c.requires.each c.loop-index.index (function_of c.f-item.result)
    (function_there c.args.program.now.functions.items c.deref-f-items.result.now c.loop-index.index c.f-item.result c.deref-f-items.ensures.value c.loop-index-test.true c.f-item.is)

pub loop-index-init : goal.loop-index-init
loop-index-init g c = record {
  sets = λ others rest. subst (λ (xs : List SetLine). AreSets (program_of c.args.program.now) (map set_seen xs ++ others)) (sym c.new-lines.ensures.items) rest;
  ticks = omega arith;
}

pub loop-index-preserved : goal.loop-index-preserved
loop-index-preserved g c =
    let p = program_of c.args.program.now in
    let f = function_of c.f-item.result in
    let here = function_there c.args.program.now.functions.items c.deref-f-items.result.now c.loop-index.index c.f-item.result c.deref-f-items.ensures.value c.loop-index-test.true c.f-item.is in
    let adds = subst (λ (ss : List Signature). AddsSets ss p.types c.loop-index.index f (map set_seen c.loop-index.lines.items) (map set_seen c.push_function.new.out.items)) c.in_ok-sigs.ensures c.in_ok-push_function.ensures.adds in
    let left = ticks_left p.types c.args.program.now.functions.items c.deref-f-items.result.now c.loop-index.index c.f-item.result c.loop-index.steps c.push_function.new.steps
    c.deref-f-items.ensures.value c.loop-index-test.true c.f-item.is c.in_ok-push_function.ensures.ticks in
    record {
      sets = sets_next p c.loop-index.index f (map set_seen c.loop-index.lines.items) (map set_seen c.push_function.new.out.items) here adds c.loop-index.invariant.sets;
      ticks = omega (arith, left, c.loop-index.invariant.ticks);
    }

pub returns-in_err-push_function-clause-ticks : goal.returns-in_err-push_function-clause-ticks
returns-in_err-push_function-clause-ticks g c =
    let left = ticks_left c.args.program.now.types c.args.program.now.functions.items c.deref-f-items.result.now c.loop-index.index c.f-item.result c.loop-index.steps c.push_function.new.steps
    c.deref-f-items.ensures.value c.loop-index-test.true c.f-item.is c.in_err-push_function.ensures.ticks in
    omega (arith, left, c.loop-index.invariant.ticks)

pub returns-clause-ticks : goal.returns-clause-ticks
returns-clause-ticks g c = omega (arith, c.loop-index.invariant.ticks)

pub returns-clause-sets : goal.returns-clause-sets
returns-clause-sets g c =
    let p = program_of c.args.program.now in
    let count : length p.functions ≤ c.loop-index.index =
    omega (arith, length-map c.args.program.now.functions.items function_of, c.loop-index-test.false, ap (λ (fs : List CoreFn). length fs) c.deref-f-items.ensures.value) in
    sets_whole p c.loop-index.index (map set_seen c.loop-index.lines.items) count c.loop-index.invariant.sets
