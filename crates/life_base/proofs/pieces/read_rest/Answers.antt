use Rattle.std.proofs.Common.{arith, ℕ, List, length, ◌≡◌, ◌≤◌, subst, sym, length-append}
use Rattle.std.proofs.lemmas.Result.{err_from_is_err_and}
use Rattle.std.specs.Io.KnownBytes.{Consumes}
use Rattle.std.proofs.KnownBytes.{Consumes-trans}
use Rattle.life_base.proofs.Taken.{reads_front, reads_up_to, reads_whole}
use Rattle.life_base.proofs.pieces.read_rest.Goals as goal

pub returns-clause-whole : goal.returns-clause-whole
returns-clause-whole g c = reads_front _ _ c.loop-bytes.bytes.items c.args.most c.loop-bytes.invariant.read (omega arith)

pub returns-then-count-eq0-clause-whole : goal.returns-then-count-eq0-clause-whole
returns-then-count-eq0-clause-whole g c =
    let rest = g.F.Files.rest in
    let e = c.in_ok-count.ensures.gained in
    let read : Consumes (rest c.args.files.now) (rest c.take_piece.new.files) c.take_piece.new.bytes.items =
    subst (Consumes (rest c.args.files.now) (rest c.take_piece.new.files)) (sym {A = List ℕ} e.gained) (Consumes-trans _ _ _ _ _ c.loop-bytes.invariant.read e.taken) in
    let none : c.in_ok-count.count ≡ 0 = omega arith in
    let fits : length c.take_piece.new.bytes.items ≤ c.args.most = rw e.gained (omega (arith, length-append c.loop-bytes.bytes.items e.got, e.count)) in
    reads_whole _ _ c.take_piece.new.bytes.items c.args.most read (e.ended none) fits

pub returns-in_err-count-clause-taken : goal.returns-in_err-count-clause-taken
returns-in_err-count-clause-taken g c =
    let e = err_from_is_err_and c.from_residual.result c.from_residual.ensures.1 in
    rw e.1 (reads_up_to _ _ _ c.loop-bytes.bytes.items _ c.args.most c.loop-bytes.invariant.read c.in_err-count.ensures.gained (omega arith))
