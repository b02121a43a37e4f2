use Rattle.log_lock.proofs.turns.TicketLock.meet.Given as goal

abbrev pub ghosts-cut : goal.ghosts-cut
ghosts-cut g a = record { share = a.share }
