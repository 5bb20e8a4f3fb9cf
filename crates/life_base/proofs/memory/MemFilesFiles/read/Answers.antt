use Rattle.std.proofs.Common.{◌≡◌, ◌≤◌, length, take, drop, min, arith, rules}
use Rattle.life_base.specs.Memory.{bytes_at, named_files}
use Rattle.life_base.proofs.Found.{read_ends, read_moves}
use Rattle.life_base.proofs.memory.MemFilesFiles.read.Goals as goal

pub returns-clause-bytes : goal.returns-clause-bytes
returns-clause-bytes c =
    let rest = c.rest_of-rest.result.now in
    let n = c.min-count.result in
    let left : rest ≡ drop c.self.inside.at (bytes_at (named_files c.self.inside.files.items) c.self.inside.started) = search rules in
    let within : n ≤ length rest = omega arith in
    let moved : c.copy_from_slice.new.self ≡ take n rest = search rules in
    let count : n ≡ min (min (length c.args.into.now) c.self.inside.most) (length rest) = search rules in
    rw (← c.self.view_is) (
      read_moves _ c.args.into.now _ rest _ n left moved within,
      λ none room. read_ends _ c.args.into.now _ rest _ n c.self.inside.most left moved c.self.invariant count none room,
    )
