use Rattle.std.proofs.Common.{◌∙◌, ap, true}
use Rattle.clap.specs.Words.{App}
use Rattle.run_words.proofs.ClapLemmas.{help_off, name_off, version_off}
use Rattle.run_words.proofs.behind.bare.Goals as goal

pub returns : goal.returns
returns c =
    version_off c.disable_help_flag.result c.disable_version_flag.result c.disable_version_flag.ensures
    ∙ ap (λ (a : App). record a { top = record a.top { disable_version_flag = true } }) (help_off c.no_binary_name.result c.disable_help_flag.result c.disable_help_flag.ensures
    ∙ ap (λ (a : App). record a { top = record a.top { disable_help_flag = true } }) (name_off c.new.result c.no_binary_name.result c.no_binary_name.ensures
    ∙ ap (λ (a : App). record a { top = record a.top { no_binary_name = true } }) c.new.ensures.app))
