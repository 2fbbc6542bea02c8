-- The worked rows by computing.
use Rattle.std.proofs.Common.{refl}
use Rattle.ctss_types.specs.Words.{name_of}
use Rattle.link_model.specs.Links.{link_of}
use Rattle.link_model.specs.ModuleCards.{module_made}
use Rattle.link_model.specs.Listed.{listed_module}
use Rattle.link_model.specs.Rows.{RowOfModules, RowOfListedModule, RowOfLinks, RowOfModuleFaults, RowOfFiles}

pub row_of_modules : RowOfModules
unfolding module_made name_of
row_of_modules =
    record {
      greeting_is = refl;
      printer_is = refl;
      words = refl;
      back = refl;
      short = refl;
      long = refl;
      high_kind = refl;
      high_start = refl;
      no_rel = refl;
      starred = refl;
    }

pub row_of_listed_module : RowOfListedModule
unfolding listed_module name_of
row_of_listed_module = record { printer_is = refl }

pub row_of_links : RowOfLinks
unfolding link_of name_of
row_of_links = record { both = refl; missing = refl; twice = refl }

pub row_of_module_faults : RowOfModuleFaults
unfolding module_made name_of
row_of_module_faults = record { faults = refl }

pub row_of_files : RowOfFiles
unfolding link_of name_of
row_of_files = record { both = refl; missing = refl; twice = refl; bad = refl; absent = refl }
