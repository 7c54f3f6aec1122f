use Rattle.conformance_threads.proofs.daemon.two_threads_ask_one_daemon_while_a_third_publishes.Given as goal

abbrev pub ghosts-apart : goal.ghosts-apart
ghosts-apart g a = record { board = a.board.now.board }
