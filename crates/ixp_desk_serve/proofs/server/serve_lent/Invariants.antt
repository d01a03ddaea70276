use Rattle.ixp_desk_serve.proofs.server.serve_lent.Given as goal

abbrev pub ghosts-serve_desk : goal.ghosts-serve_desk
ghosts-serve_desk g a = record { book = a.desk.0 }
