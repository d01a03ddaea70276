use Rattle.ixp_desk_serve.proofs.session.serve_lent.Given as goal

abbrev pub ghosts-serve_alone : goal.ghosts-serve_alone
ghosts-serve_alone g a = record { book = a.desk.0 }
