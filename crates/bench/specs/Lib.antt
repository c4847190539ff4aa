-- What the timed calls of planning and evaluation promise (Numbers). No section of document 01 is defined here: these calls are no part of the engine.
pub mod Numbers
