use Rattle.ixp_desk_serve.proofs.session.serve_session.Given as goal

abbrev pub ghosts-serve_joined : goal.ghosts-serve_joined
ghosts-serve_joined g a = record { input = a.source.it.ghost_name; output = a.sink.it.ghost_name }
