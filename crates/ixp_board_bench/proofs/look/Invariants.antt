use Rattle.ixp_board_bench.proofs.look.Given as goal

-- the board that was just begun
abbrev pub ghosts-looks_beside_turns : goal.ghosts-looks_beside_turns
ghosts-looks_beside_turns g a = record { book = a.opened.0 }
