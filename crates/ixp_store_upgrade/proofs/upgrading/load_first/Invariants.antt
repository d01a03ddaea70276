use Rattle.ixp_store_upgrade.proofs.upgrading.load_first.Given as goal

abbrev pub ghosts-load_lent : goal.ghosts-load_lent
ghosts-load_lent g a = record { lent = a.loan.keeper.ghost_name; rows = g.P.Keeper.table a.loan.keeper.now }
