-- A legal history is within.
use Rattle.std.proofs.Common.{List}
use Rattle.aid_filings.specs.declared.filing.Filing.{Filing}
use Rattle.office_history.specs.Answer.{IsLegal}
use Rattle.office_history.specs.Within.{IsWithinEveryLimit}
use Rattle.office_history.proofs.Cost.{cost_holds, fseog_holds}
use Rattle.office_history.proofs.Awards.{year_holds}
use Rattle.office_history.proofs.Lifetime.{lifetime_holds}
use Rattle.office_history.proofs.Terms.{term_holds}
use Rattle.office_history.proofs.Apart.{apart_holds}
use Rattle.office_history.proofs.Main.{main_holds}
use Rattle.office_history.proofs.AnyNets.{any_net_stands}

pub legal_within : (past : List Filing) → IsLegal past → IsWithinEveryLimit past
legal_within past legal = record {
  term = term_holds past legal;
  year = year_holds past legal;
  main = main_holds past legal;
  fseog = fseog_holds past legal;
  lifetime = lifetime_holds past legal;
  cost = cost_holds past legal;
  nets = any_net_stands past legal;
  apart = apart_holds past legal;
}
