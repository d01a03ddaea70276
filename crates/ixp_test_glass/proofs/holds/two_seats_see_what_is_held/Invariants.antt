use Rattle.ixp_test_glass.proofs.holds.two_seats_see_what_is_held.Given as goal

-- the board that was just opened
abbrev pub ghosts-seen_on_a_board : goal.ghosts-seen_on_a_board
ghosts-seen_on_a_board g a = record { book = a.holds.0 }
