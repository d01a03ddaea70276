use Rattle.ixp_test_glass.proofs.holds.a_seventeenth_session_is_refused.Given as goal

-- the board that was just opened
abbrev pub ghosts-sixteen_on_a_board : goal.ghosts-sixteen_on_a_board
ghosts-sixteen_on_a_board g a = record { book = a.holds.0 }
