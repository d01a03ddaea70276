use Rattle.ixp_test_board.proofs.holding.looks_go_on_while_a_turn_is_held.Given as goal

-- the board that was just begun
abbrev pub ghosts-held_on_a_board : goal.ghosts-held_on_a_board
ghosts-held_on_a_board g a = record { book = a.opened.0 }
