use Rattle.ixp_test_board.proofs.desk.two_threads_share_a_desk.Given as goal

-- the board that was just begun
abbrev pub ghosts-both_submit_on_a_desk : goal.ghosts-both_submit_on_a_desk
ghosts-both_submit_on_a_desk g a = record { book = a.opened.0 }
