use Rattle.ixp_test_glass.proofs.holds.too_many_routes_and_other_families_are_refused.Given as goal

-- the board that was just opened
abbrev pub ghosts-refuses_on_a_board : goal.ghosts-refuses_on_a_board
ghosts-refuses_on_a_board g a = record { book = a.holds.0 }
