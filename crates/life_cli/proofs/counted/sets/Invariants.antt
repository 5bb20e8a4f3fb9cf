use Rattle.life_cli.proofs.counted.sets.Given as goal

abbrev pub ghosts-sets_with : goal.ghosts-sets_with
ghosts-sets_with a = record { name = a.blank.name; parts = a.blank.parts }
