-- Figures are exact.
pub mod FigureExact
pub mod KnownFigures
