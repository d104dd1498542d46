-- What a showing returns to a host: the answer in the document's numbers.
use Rattle.std.specs.Prelude.{Result}
use Rattle.figure.specs.declared.Figure.{Figure}
use Rattle.figure.specs.declared.FigureFault.{FigureFault}
use Rattle.figure.specs.Figures.{figure_number, figure_raw, figure_value}
use Rattle.host_figure.specs.declared.HostFigure.{HostFigure}

abbrev pub host_figure : Result Figure FigureFault → HostFigure
host_figure f = record { number = figure_number f; raw = figure_raw f; value = figure_value f }
