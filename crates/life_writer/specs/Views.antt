-- What has been written, as definitions see it.
use Rattle.std.specs.Prelude.{map}
use Rattle.life_core.specs.Tree.{tree_of}
use Rattle.life_writer.specs.Around.{Around}
use Rattle.life_writer.specs.Building.{Destination}
use Rattle.life_writer.specs.Pointers.{Pointing, As, By, aimed, pointed}
use Rattle.life_core.specs.Operands.{argument_of, base_of, location_of, operand_of, source_of}
use Rattle.life_core.specs.Step.{Advance, Changes, Cursor, Cut, Element, Erase}
use Rattle.life_core.specs.declared.instr.Form.TheVariants.{Plain}
use Rattle.life_types.specs.declared.place.Place.{Place}
use Rattle.life_types.specs.declared.ty.Ty.{Ty}
use Rattle.life_typed.specs.Delimiters.{delimiters_view}
use Rattle.life_typed.specs.Programs.{function_view, program_view}
use Rattle.life_writer.specs.Registers.{wanted}
use Rattle.life_writer.specs.Assigning.{moved}
use Rattle.life_writer.specs.Characters.{InRegister, InString, InView, Seen, concatenated}
use Rattle.life_writer.specs.Giving.{copied}
use Rattle.life_writer.specs.OwnerForms.{copied_at, made_at, made_null, moved_out_of, set_to, standing}
use Rattle.life_writer.specs.Temporaries.{consumed, hidden, scoped, temporary}
use Rattle.life_writer.specs.Uses.{Act, Remaining, filled, lived, saved}
use Rattle.life_writer.specs.Variables.{named}
use Rattle.life_writer.specs.Writing.{State}
use Rattle.life_typed.specs.TypedForm.{forms, typed_views}
use Rattle.life_writer.specs.Calls.{Called, called}
use Rattle.life_writer.specs.declared.calls.Called.{Called as Call}
use Rattle.life_writer.specs.declared.acts.Act.{Act as Action}
use Rattle.life_writer.specs.declared.acts.Act.TheVariants as action
use Rattle.life_writer.specs.declared.around.Around.{Around as Surroundings}
use Rattle.life_writer.specs.declared.building.Destination.{Destination as Goal}
use Rattle.life_writer.specs.declared.building.Destination.TheVariants as goal
use Rattle.life_writer.specs.declared.building.Keeping.{Keeping}
use Rattle.life_writer.specs.declared.building.Keeping.TheVariants as keeping
use Rattle.life_writer.specs.declared.building.Last.{Last as LastLeft}
use Rattle.life_writer.specs.declared.building.Last.TheVariants as last
use Rattle.life_writer.specs.declared.characters.SeenCharacters.{SeenCharacters as Found}
use Rattle.life_writer.specs.declared.characters.SeenCharacters.TheVariants as found
use Rattle.life_writer.specs.declared.pointers.Pointing.{Pointing as Pointed}
use Rattle.life_writer.specs.declared.pointers.Pointing.TheVariants as pointing
use Rattle.life_writer.specs.declared.writer.Writer.{Writer}

unfoldable pub state_of : Writer → State
state_of w = record {
  types = w.types;
  locals = w.locals.items;
  variables = w.variables.items;
  living = w.living.items;
  pending = w.pending.items;
  outside = w.outside;
  code = map tree_of w.code.items;
}

abbrev pub around_of : Surroundings → Around
around_of a = record { program = program_view a.program.now; function = function_view a.function.now }

abbrev pub pointing_of : Pointed → Pointing
pointing_of (pointing.At source) = aimed (source_of source)
pointing_of (pointing.As location) = As (location_of location)
pointing_of (pointing.Element b which) = By (λ p. Element p (base_of b) which)
pointing_of (pointing.Cursor b end) = By (λ p. Cursor p (base_of b) end)
pointing_of (pointing.Advanced q count direction) = By (λ p. Advance p (location_of q) count direction)
pointing_of (pointing.Cut q index count) = By (λ p. Cut p (location_of q) index count)
pointing_of (pointing.Erased o at) = By (λ p. Changes (operand_of o) (Erase (location_of at) p))
pointing_of (pointing.Call f arguments) = By (called f (map argument_of arguments.items))

abbrev pub seen_of : Found → Seen
seen_of (found.InString place o) = InString place (operand_of o)
seen_of (found.InView l) = InView (location_of l)
seen_of (found.InRegister r) = InRegister r

abbrev pub act_of : Action → Act
act_of (action.Copied from) = copied (operand_of from)
act_of (action.CopiedAt at from) = copied_at at (operand_of from)
act_of (action.Moved x) = moved x
act_of (action.MovedFrom at x) = moved_out_of at x
act_of (action.Made at what) = made_at at what
act_of action.Null = made_null
act_of (action.Set view) = set_to (location_of view)
act_of (action.SetAt at view) = standing at (set_to (location_of view))
act_of (action.Joined at left right) = concatenated at (seen_of left) (seen_of right)

abbrev pub last_of : LastLeft → Remaining
last_of (last.Point place p) = filled place (pointed (pointing_of p))
last_of (last.Call place f arguments) = filled place (called f (map argument_of arguments.items))
last_of (last.Saved r) = saved r
last_of (last.Lived act) = lived Plain (act_of act)

abbrev pub destination_of : Goal → Destination
destination_of (goal.Register place into t) = wanted place into t
destination_of (goal.Variable l place) = named l place
destination_of (goal.Temporary place t) = temporary place t
destination_of (goal.Scoped place t) = scoped place t
destination_of (goal.Consumed place t) = consumed place t
destination_of (goal.Hidden place t) = hidden place t

abbrev pub keeps_of : Keeping → Place → Ty → Destination
keeps_of keeping.Full place t = temporary place t
keeps_of keeping.Scope place t = scoped place t

abbrev pub called_of : Call → Called
called_of c = record { function = c.function; arguments = forms (typed_views c.arguments.now); delimiters = delimiters_view c.delimiters.now }
