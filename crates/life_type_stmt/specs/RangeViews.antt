-- The head of a loop over a range, as plain data.
use Rattle.life_typed.specs.TypedForm.{typed_view}
use Rattle.life_type_stmt.specs.Ranges.{RangeForm, RangeHead}
use Rattle.life_type_stmt.specs.declared.ranges.RangeParts.{RangeParts}
use Rattle.life_type_stmt.specs.declared.ranges.RangeStart.{RangeStart}

abbrev pub range_parts_view : RangeParts → RangeForm
range_parts_view p = record { range = typed_view p.range; element = p.element }

abbrev pub range_head_view : RangeStart → RangeHead
range_head_view h = record { local = h.local; range = typed_view h.range }
