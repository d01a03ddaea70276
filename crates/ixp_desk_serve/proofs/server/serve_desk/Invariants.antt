use Rattle.ixp_desk_serve.proofs.server.serve_desk.Given as goal

abbrev pub ghosts-serve_glass : goal.ghosts-serve_glass
ghosts-serve_glass g a = record { book = a.holds.0 }
