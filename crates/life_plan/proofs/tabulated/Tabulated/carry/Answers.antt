use Rattle.std.proofs.Common.{ℕ, sym, length}
use Rattle.std.proofs.lemmas.Bool.{true≢false}
use Rattle.std.proofs.lemmas.Result.{on_ok_weaker}
use Rattle.life_core.specs.Function.{function_of}
use Rattle.life_sets.specs.NumberSets.{holds}
use Rattle.life_rules.specs.FactSets.{CarriesPair, Includes}
use Rattle.life_plan.specs.Crossing.{crossing_in}
use Rattle.life_plan.proofs.Growing.{includes_more, notes_more, some_more}
use Rattle.life_plan.proofs.Running.{keeps_within, kept_after, kept_carried, made_carried, made_into, none_after, none_carried}
use Rattle.life_plan.proofs.tabulated.Tabulated.carry.Goals as goal

pub returns-clause-carried : goal.returns-clause-carried
returns-clause-carried g c =
    let has = g.R.Rows.has in
    let x = crossing_in c.args.context.now in
    let was = c.requires.carried in
    let locations = g.R.Rows.location_limit c.args.from.now in
    let elements = g.R.Rows.element_limit c.args.from.now in
    let start : Includes (has c.args.into.now) (has c.start.new.into) = λ l m h. (c.start.ensures.some l m).0 h in
    let keep : Includes (has c.start.new.into) (has c.keep_due.new.into) = λ l m h. (c.keep_due.ensures.some l m).0 h in
    let make : Includes (has c.keep_due.new.into) (has c.make_due.new.into) = λ l m h. (c.make_due.ensures.some l m).0 h in
    let later = includes_more (has c.start.new.into) (has c.keep_due.new.into) (has c.make_due.new.into) keep make in
    let all = includes_more (has c.args.into.now) (has c.start.new.into) (has c.make_due.new.into) start later in
    let first = includes_more (has c.args.into.now) (has c.start.new.into) (has c.keep_due.new.into) start keep in
    on_ok_weaker c.make_due.result
    (λ made. record {
      means = record { staying = was.means.staying; marking = c.see-grew.ensures.is; readings = c.make_due.ensures.are };
      fresh = λ f l lt. absurd (true≢false (sym f));
      none = λ f l m h. none_after x c.args.self.now.is_fresh (has c.args.into.now) (has c.start.new.into) (has c.make_due.new.into) was.none c.in_ok-start.ensures.none all later l m h;
      targets = c.see-grew.ensures.seen;
      kept = λ l m f h. make l m (kept_after c.args.self.now.staying c.args.self.now.marking c.see-grew.new.self locations elements (holds c.args.due.now) c.see-grew.result (has c.args.from.now) (has c.args.into.now) (has c.keep_due.new.into)
          (λ l m not_due k. was.kept l m not_due (keeps_within c.args.self.now.staying c.args.self.now.marking locations elements (length x.table.locations) (length x.table.elements) c.requires.from_locations c.requires.from_elements (has c.args.from.now) l m k)) first
          c.see-grew.ensures.mark c.see-grew.ensures.grew c.in_ok-keep_due.ensures.kept l m
          (keeps_within c.args.self.now.staying c.see-grew.new.self (length x.table.locations) (length x.table.elements) locations elements (sym c.requires.from_locations) (sym c.requires.from_elements) (has c.args.from.now) l m h));
      made = made;
    })
    c.make_due.ensures.made

pub make_due-requires-clause-made : goal.make_due-requires-clause-made
make_due-requires-clause-made g c =
    let has = g.R.Rows.has in
    let first = includes_more (has c.args.into.now) (has c.start.new.into) (has c.keep_due.new.into) (λ l m h. (c.start.ensures.some l m).0 h) (λ l m h. (c.keep_due.ensures.some l m).0 h) in
    made_into (crossing_in c.args.context.now) c.args.self.now.readings.items (holds c.args.due.now) (has c.args.from.now) (has c.args.into.now) (has c.keep_due.new.into) first c.requires.carried.made

pub returns-in_err-start-clause-sound : goal.returns-in_err-start-clause-sound
returns-in_err-start-clause-sound g c =
    let has = g.R.Rows.has in
    none_carried c.args.context.now c.requires.context (has c.args.from.now) (has c.args.into.now) (has c.start.new.into) c.start.ensures.some

pub returns-in_err-keep_due-clause-sound : goal.returns-in_err-keep_due-clause-sound
returns-in_err-keep_due-clause-sound g c =
    let has = g.R.Rows.has in
    let x = c.args.context.now in
    let s = c.args.self.now.staying in
    let means = c.requires.carried.means in
    some_more (has c.args.into.now) (has c.start.new.into) (has c.keep_due.new.into) (CarriesPair x.sigs.now x.types.now (function_of x.f.now) x.edge (has c.args.from.now))
    (none_carried x c.requires.context (has c.args.from.now) (has c.args.into.now) (has c.start.new.into) c.start.ensures.some)
    (kept_carried x c.requires.context (has c.args.from.now) s c.see-grew.new.self means.staying c.see-grew.ensures.is c.see-grew.ensures.seen (g.R.Rows.location_limit c.args.from.now) (g.R.Rows.element_limit c.args.from.now) c.requires.from_locations c.requires.from_elements
    (has c.start.new.into) (has c.keep_due.new.into) c.keep_due.ensures.some)

pub returns-clause-sound : goal.returns-clause-sound
returns-clause-sound g c =
    let has = g.R.Rows.has in
    let x = c.args.context.now in
    let s = c.args.self.now.staying in
    let means = c.requires.carried.means in
    let carried : ℕ → ℕ → Type 0 = CarriesPair x.sigs.now x.types.now (function_of x.f.now) x.edge (has c.args.from.now) in
    some_more (has c.args.into.now) (has c.keep_due.new.into) (has c.make_due.new.into) carried
    (some_more (has c.args.into.now) (has c.start.new.into) (has c.keep_due.new.into) carried (none_carried x c.requires.context (has c.args.from.now) (has c.args.into.now) (has c.start.new.into) c.start.ensures.some)
    (kept_carried x c.requires.context (has c.args.from.now) s c.see-grew.new.self means.staying c.see-grew.ensures.is c.see-grew.ensures.seen (g.R.Rows.location_limit c.args.from.now) (g.R.Rows.element_limit c.args.from.now) c.requires.from_locations c.requires.from_elements
    (has c.start.new.into) (has c.keep_due.new.into) c.keep_due.ensures.some))
    (made_carried x c.requires.context (has c.args.from.now) c.args.self.now.readings.items means.readings (has c.keep_due.new.into) (has c.make_due.new.into) c.make_due.ensures.some)

pub returns-clause-noted : goal.returns-clause-noted
returns-clause-noted g c =
    let has = g.R.Rows.has in
    let start : Includes (has c.args.into.now) (has c.start.new.into) = λ l m h. (c.start.ensures.some l m).0 h in
    let keep : Includes (has c.start.new.into) (has c.keep_due.new.into) = λ l m h. (c.keep_due.ensures.some l m).0 h in
    let make : Includes (has c.keep_due.new.into) (has c.make_due.new.into) = λ l m h. (c.make_due.ensures.some l m).0 h in
    let first = includes_more (has c.args.into.now) (has c.start.new.into) (has c.keep_due.new.into) start keep in
    on_ok_weaker c.make_due.result
    (notes_more (has c.args.into.now) (has c.keep_due.new.into) (has c.make_due.new.into) (holds c.args.gained.now) (holds c.keep_due.new.gained) (holds c.make_due.new.gained) first make
    (notes_more (has c.args.into.now) (has c.start.new.into) (has c.keep_due.new.into) (holds c.args.gained.now) (holds c.start.new.gained) (holds c.keep_due.new.gained) start keep c.in_ok-start.ensures.noted c.in_ok-keep_due.ensures.noted))
    c.make_due.ensures.noted
