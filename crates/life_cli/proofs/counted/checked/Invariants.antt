use Rattle.life_cli.proofs.counted.checked.Given as goal

abbrev pub ghosts-checked_with : goal.ghosts-checked_with
ghosts-checked_with a = record { name = a.blank.name; parts = a.blank.parts }
