use Rattle.ixp_test_disk.proofs.edits.on_a_store.Given as goal

abbrev pub ghosts-on_a_desk : goal.ghosts-on_a_desk
ghosts-on_a_desk g a = record { book = a.desk.0 }
