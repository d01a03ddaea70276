use Rattle.ixp_desk_serve.proofs.session.serve_store.Given as goal

abbrev pub ghosts-serve_lent : goal.ghosts-serve_lent
ghosts-serve_lent g a = record { lent = a.loan.it.ghost_name }
