use Rattle.std.proofs.Common.{◌≤◌, length, refl, arith}
use Rattle.life_cli.proofs.Making.{short_made}
use Rattle.life_cli.specs.FileText.{most_bytes}
use Rattle.life_cli.proofs.made.serve_text.Goals as goal

pub returns : goal.returns
returns g c =
    let short : length c.args.text.now ≤ most_bytes = omega (arith, c.if-text-gt-MOST_BYTES.false) in
    short_made c.args.text.now _ _ short (length c.args.text.now) refl _ _ _ c.serve_bytes.result c.serve_bytes.ensures
