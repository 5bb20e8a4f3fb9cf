use Rattle.life_core_rows.proofs.derive.found_by_bits.Given as goal

abbrev pub ghosts-found_by : goal.ghosts-found_by
ghosts-found_by a = record { name = a.blank.name; parts = a.blank.parts }
