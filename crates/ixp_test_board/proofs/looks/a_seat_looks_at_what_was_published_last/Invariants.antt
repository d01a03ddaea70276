use Rattle.ixp_test_board.proofs.looks.a_seat_looks_at_what_was_published_last.Given as goal

-- the board that was just begun
abbrev pub ghosts-two_turns_on_a_board : goal.ghosts-two_turns_on_a_board
ghosts-two_turns_on_a_board g a = record { book = a.opened.0 }
