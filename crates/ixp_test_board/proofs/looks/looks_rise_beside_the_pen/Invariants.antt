use Rattle.ixp_test_board.proofs.looks.looks_rise_beside_the_pen.Given as goal

-- the board that was just begun
abbrev pub ghosts-beside_on_a_board : goal.ghosts-beside_on_a_board
ghosts-beside_on_a_board g a = record { book = a.opened.0 }
